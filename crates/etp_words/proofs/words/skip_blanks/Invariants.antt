use Rattle.std.proofs.Common.{◌≡◌, drop}
use Rattle.etp_words.specs.Words.{skip_blanks, words_of}
use Rattle.etp_words.proofs.words.skip_blanks.Given as goal

abbrev pub invariant-loop-i : goal.invariant-loop-i
invariant-loop-i l = (words_of l.line ≡ words_of (drop l.i l.line)) × (skip_blanks l.line ≡ skip_blanks (drop l.i l.line))
