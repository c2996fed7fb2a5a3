use Rattle.std.proofs.Common.{◌≤◌}
use Rattle.etp_bits.proofs.words.count_some.Given as goal

abbrev pub invariant-loop-word : goal.invariant-loop-word
invariant-loop-word l = l.total ≤ l.word-index
