use Rattle.std.proofs.Common.{◌≡◌, ◌≢◌, ℕ, take}
use Rattle.std.specs.List.{list_any}
use Rattle.etp_bits.specs.Bits.{bit, SameSizes}
use Rattle.etp_closure.specs.Tables.{image_of, row_of}
use Rattle.etp_closure.proofs.tables.mark_joined.Given as goal

abbrev pub invariant-loop-law : goal.invariant-loop-law
invariant-loop-law l = record {
  sizes : SameSizes l.initial.marks l.marks;
  others : (r c : ℕ) → r ≢ 1 → bit l.marks r c ≡ bit l.initial.marks r c;
  bits : (c : ℕ) → bit l.marks 1 c ≡ list_any (λ law. bit l.matrix (row_of l.slots (image_of l.duals l.dual law)) c) (take l.law-index l.list);
}
