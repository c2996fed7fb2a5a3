use Rattle.etp_table.proofs.Running.{Ran}
use Rattle.etp_table.proofs.compiled.run.Given as goal

abbrev pub invariant-loop-place : goal.invariant-loop-place
invariant-loop-place l = Ran l.table l.first l.instructions l.initial.registers l.registers l.place
