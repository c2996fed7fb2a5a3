use Rattle.std.proofs.Common.{◌≡◌, ◌++◌, map, flat_map, take}
use Rattle.etp_laws.specs.Shapes.{shape_from, sides_from}
use Rattle.etp_laws.proofs.shapes.append_pairs.Given as goal

abbrev pub invariant-loop-left : goal.invariant-loop-left
invariant-loop-left l = map sides_from l.pairs ≡ map sides_from l.initial.pairs ++ flat_map (λ a. map (λ b. (a, b)) (map shape_from l.rights)) (map shape_from (take l.left-index l.lefts))
