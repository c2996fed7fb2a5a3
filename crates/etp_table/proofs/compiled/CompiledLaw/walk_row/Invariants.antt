use Rattle.std.proofs.Common.{◌<◌, ℕ}
use Rattle.etp_table.specs.Verdicts.{AgreesAt}
use Rattle.etp_table.specs.Compiled.{law_of, AreValues, SameBelow, assignment_at}
use Rattle.etp_table.proofs.compiled.CompiledLaw.walk_row.Given as goal

abbrev pub invariant-loop-value : goal.invariant-loop-value
invariant-loop-value l = record {
  values : AreValues l.table l.registers;
  same : SameBelow 12 l.initial.registers l.registers;
  agree : (j : ℕ) → j < l.value → AgreesAt l.table (law_of l.self) (assignment_at l.self.program.last l.initial.registers j);
}
