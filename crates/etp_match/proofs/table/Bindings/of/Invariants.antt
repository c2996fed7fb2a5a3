use Rattle.std.proofs.Common.{take}
use Rattle.etp_match.specs.Bindings.{HaveSameValues}
use Rattle.etp_match.proofs.table.Bindings.of.Given as goal

abbrev pub invariant-loop-binding : goal.invariant-loop-binding
invariant-loop-binding l = HaveSameValues l.bindings (take l.binding-index l.binding-items)
