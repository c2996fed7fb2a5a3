use Rattle.std.proofs.Common.{◌<◌, ◌^◌, ◌⊎◌, ℕ, vec_len, slice_index}
use Rattle.etp_theory.specs.LawNumbers.{dual_number}
use Rattle.etp_closure.specs.Closures.{IsKept}
use Rattle.etp_closure.specs.Tables.{IsOneToOne, Extends, IsNamed}
use Rattle.etp_closure.proofs.slots.keep_all.Given as goal

abbrev pub invariant-loop-law : goal.invariant-loop-law
invariant-loop-law l = record {
  paired : IsOneToOne l.slots l.laws.items;
  few : vec_len l.laws < 2 ^ 32;
  extends : Extends l.initial.slots l.initial.laws.items l.slots l.laws.items;
  kept : (k : ℕ) → k < l.law-index → IsKept l.slots (slice_index l.list k);
  dual_kept : (k : ℕ) → k < l.law-index → IsKept l.slots (dual_number l.duals (slice_index l.list k));
  only : (other : ℕ) → IsKept l.slots other → IsKept l.initial.slots other ⊎ IsNamed l.duals l.list other;
}
