use Rattle.std.proofs.Common.{◌≡◌, ◌≤◌, ◌+◌, length}
use Rattle.etp_words.specs.Words.{words_of}
use Rattle.etp_lines.specs.Claims.{numbers_said}
use Rattle.etp_lines.proofs.NumberLemmas.{numbers_behind}
use Rattle.etp_lines.proofs.numbers.read_numbers.Given as goal

abbrev pub invariant-loop-word : goal.invariant-loop-word
invariant-loop-word l = (numbers_said (words_of l.initial.rest) ≡ numbers_behind l.numbers (numbers_said (words_of l.rest)))
    × (length l.numbers + length (words_of l.rest) ≤ length (words_of l.initial.rest))

abbrev pub decreases-loop-word : goal.decreases-loop-word
decreases-loop-word l = length (words_of l.rest)
