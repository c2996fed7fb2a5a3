use Rattle.std.proofs.Common.{◌≡◌, ℕ, ◌<◌}
use Rattle.etp_matrix.specs.Values.{column}
use Rattle.etp_matrix.proofs.failures.first_column.Given as goal

abbrev pub invariant-loop-k : goal.invariant-loop-k
invariant-loop-k l = (j : ℕ) → j < l.k → column l.left j ≡ column l.right j
