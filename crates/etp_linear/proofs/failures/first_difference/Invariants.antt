use Rattle.std.proofs.Common.{◌≡◌, ℕ, ◌<◌}
use Rattle.etp_linear.specs.Values.{coefficient_at}
use Rattle.etp_linear.proofs.failures.first_difference.Given as goal

abbrev pub invariant-loop-v : goal.invariant-loop-v
invariant-loop-v l = (u : ℕ) → u < l.v → coefficient_at l.left u ≡ coefficient_at l.right u
