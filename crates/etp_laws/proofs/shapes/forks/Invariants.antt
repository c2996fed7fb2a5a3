use Rattle.std.proofs.Common.{◌≡◌, map, take}
use Rattle.etp_laws.specs.Shapes.{shape_from, sides_from}
use Rattle.etp_laws.specs.Enumeration.{joined}
use Rattle.etp_laws.proofs.shapes.forks.Given as goal

abbrev pub invariant-loop-pair : goal.invariant-loop-pair
invariant-loop-pair l = map shape_from l.forks ≡ map joined (map sides_from (take l.pair-index l.pairs))
