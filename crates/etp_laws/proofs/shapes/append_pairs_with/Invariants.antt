use Rattle.std.proofs.Common.{◌≡◌, ◌++◌, map, take}
use Rattle.etp_laws.specs.Shapes.{shape_from, sides_from}
use Rattle.etp_laws.proofs.shapes.append_pairs_with.Given as goal

abbrev pub invariant-loop-right : goal.invariant-loop-right
invariant-loop-right l = map sides_from l.pairs ≡ map sides_from l.initial.pairs ++ map (λ b. (shape_from l.left, b)) (map shape_from (take l.right-index l.rights))
