use Rattle.std.proofs.Common.{ℕ, ◌<◌}
use Rattle.etp_matrix.specs.Walks.{AreSame, matrix_at}
use Rattle.etp_matrix.proofs.failures.first_difference.Given as goal

abbrev pub invariant-loop-v : goal.invariant-loop-v
invariant-loop-v l = (w : ℕ) → w < l.v → AreSame l.size (matrix_at l.left w) (matrix_at l.right w)
