use Rattle.etp_bits.specs.Bits.{bit, SameSizes}
use Rattle.etp_closure.proofs.Loops.{MarkedBelow}
use Rattle.etp_closure.proofs.tables.mark_column.Given as goal

abbrev pub invariant-loop-row : goal.invariant-loop-row
invariant-loop-row l = record {
  sizes : SameSizes l.initial.marks l.marks;
  marked : MarkedBelow (bit l.initial.marks) (bit l.marks) l.into (λ row. bit l.matrix row l.column) l.row;
}
