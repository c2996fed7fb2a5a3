use Rattle.std.proofs.Common.{◌-◌}
use Rattle.etp_table.specs.Compiled.{law_of}
use Rattle.etp_table.proofs.Walking.{Walked}
use Rattle.etp_table.proofs.compiled.CompiledLaw.walk.Given as goal

abbrev pub invariant-loop-passed : goal.invariant-loop-passed
invariant-loop-passed g l = Walked l.table (law_of l.self) (g.row.K - 1) l.values l.registers l.passed l.looked_at

abbrev pub decreases-loop-passed : goal.decreases-loop-passed
decreases-loop-passed g l = l.looked_at - l.passed
