use Rattle.std.proofs.Common.{◌≡◌, ◌+◌, ◌*◌, ◌-◌, map, flat_map}
use Rattle.std.specs.List.{range_with_len}
use Rattle.etp_laws.specs.Shapes.{sides_from}
use Rattle.etp_laws.specs.Enumeration.{shapes}
use Rattle.etp_laws.proofs.shapes.+shapes.Given as goal

abbrev pub decreases-pairs : goal.decreases-pairs
decreases-pairs l = 2 * l.ops + 1

abbrev pub decreases-shapes : goal.decreases-shapes
decreases-shapes l = 2 * l.ops

abbrev pub invariant-pairs-loop-i : goal.invariant-pairs-loop-i
invariant-pairs-loop-i l = map sides_from l.pairs ≡ flat_map (λ i. flat_map (λ a. map (λ b. (a, b)) (shapes (l.ops - i))) (shapes i)) (range_with_len 0 l.i)
