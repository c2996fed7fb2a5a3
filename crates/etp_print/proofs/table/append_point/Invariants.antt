use Rattle.std.proofs.Common.{◌≡◌, ◌++◌, take}
use Rattle.etp_table.specs.Points.{values_of}
use Rattle.etp_print.specs.RefusalTexts.{values_text}
use Rattle.etp_print.proofs.table.append_point.Given as goal

abbrev pub invariant-loop-variable : goal.invariant-loop-variable
invariant-loop-variable l = l.text ≡ l.fn.text ++ values_text 0 (take l.variable (values_of l.point))
