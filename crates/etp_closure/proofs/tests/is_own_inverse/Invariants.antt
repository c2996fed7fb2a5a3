use Rattle.std.proofs.Common.{◌≡◌, ◌<◌, ◌+◌, ◌-◌, ℕ, length, slice_index}
use Rattle.etp_theory.specs.LawNumbers.{IsLaw}
use Rattle.etp_closure.proofs.tests.is_own_inverse.Given as goal

abbrev pub invariant-loop-place : goal.invariant-loop-place
invariant-loop-place l = record {
  within : (k : ℕ) → k < l.place → IsLaw (length l.duals) (slice_index l.duals k);
  twice : (k : ℕ) → k < l.place → slice_index l.duals (slice_index l.duals k - 1) ≡ k + 1;
}
