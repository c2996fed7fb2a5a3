use Rattle.std.proofs.Common.{◌≡◌, map, take}
use Rattle.etp_match.specs.Indexes.{binding_of}
use Rattle.etp_match.proofs.table.Bindings.copied_from.Given as goal

abbrev pub invariant-loop-bound : goal.invariant-loop-bound
invariant-loop-bound l = l.copies.items ≡ map binding_of (take l.bound-index l.bound-items)
