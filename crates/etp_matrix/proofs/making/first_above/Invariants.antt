use Rattle.std.proofs.Common.{ℕ, ◌<◌, get_or}
use Rattle.etp_matrix.proofs.making.first_above.Given as goal

abbrev pub invariant-loop-n : goal.invariant-loop-n
invariant-loop-n l = (k : ℕ) → k < l.n → get_or l.entries k 0 < l.modulus
