-- The program's pairs of shapes among those of the enumeration.
use Rattle.std.proofs.Common.{◌≡◌, ℕ, ◌+◌, ◌<◌, List, map, length, get_or, sym, ◌∙◌, ap, subst, arith}
use Rattle.std.proofs.lemmas.List.{length-map}
use Rattle.std.proofs.Math.ListN.{get_or-map}
use Rattle.etp_theory.specs.Trees.{Shape, shape_leaves}
use Rattle.etp_laws.specs.Shapes.{sides_from}
use Rattle.etp_laws.specs.declared.shapes.Sides.{Sides}
use Rattle.etp_laws.specs.Enumeration.{pairs_from, shapes}
use Rattle.etp_laws.proofs.Rising.{In}
use Rattle.etp_laws.proofs.Blocks.{In-at, leaves_together}

pub leaves_at : (ps : List Sides) (n i : ℕ) (s : Sides) → map sides_from ps ≡ pairs_from shapes n → i < length ps → s ≡ get_or ps i s → shape_leaves (sides_from s).0 + shape_leaves (sides_from s).1 ≡ n + 2
leaves_at ps n i s e h at =
    let lt : i < length (map sides_from ps) = omega (arith, length-map ps sides_from) in
    let here : get_or (map sides_from ps) i (sides_from s) ≡ sides_from s = get_or-map sides_from ps i s ∙ ap sides_from (sym at) in
    leaves_together n (sides_from s) (subst (λ (qs : List (Shape × Shape)). In (sides_from s) qs) e (subst (λ (p : Shape × Shape). In p (map sides_from ps)) here (In-at (map sides_from ps) i (sides_from s) lt)))
