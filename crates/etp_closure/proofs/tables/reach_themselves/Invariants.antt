use Rattle.std.proofs.Common.{◌≡◌, ℕ, ◌&&◌, ◌||◌, nat_eq, nat_lt, nat_le}
use Rattle.etp_bits.specs.Bits.{bit, SameSizes}
use Rattle.etp_closure.proofs.tables.reach_themselves.Given as goal

abbrev pub invariant-loop-slot : goal.invariant-loop-slot
invariant-loop-slot l = record {
  sizes : SameSizes l.initial.reached l.reached;
  bits : (r c : ℕ) → bit l.reached r c ≡ (bit l.initial.reached r c || (nat_eq r c && (nat_le l.first r && nat_lt r l.slot)));
}
