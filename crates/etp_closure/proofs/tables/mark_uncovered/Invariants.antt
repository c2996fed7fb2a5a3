use Rattle.std.proofs.Common.{◌≡◌, ◌<◌, ℕ, take, IfSome}
use Rattle.etp_bits.specs.Bits.{bit, SameSizes}
use Rattle.etp_closure.specs.Tables.{image_of, row_of}
use Rattle.etp_closure.proofs.Marking.{Uncovered, FoundCovered}
use Rattle.etp_closure.proofs.tables.mark_uncovered.Given as goal

abbrev pub invariant-loop-law : goal.invariant-loop-law
invariant-loop-law l = record {
  sizes : SameSizes l.initial.marks l.marks;
  line : (c : ℕ) → bit l.marks 1 c ≡ bit l.initial.marks 1 c;
  found_in : IfSome l.found (λ row. row < l.reached.rows);
  known : FoundCovered (bit l.initial.marks 1) (bit l.covered) l.found;
  uncovered : Uncovered (bit l.marks 0) (bit l.initial.marks 1) (bit l.covered) (bit l.reached) (λ law. row_of l.slots (image_of l.duals l.dual law)) (take l.law-index l.list);
}
