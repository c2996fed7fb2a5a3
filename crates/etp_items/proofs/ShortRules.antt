-- Rules with few operations are written in short lines.
use Rattle.std.proofs.Common.{◌≡◌, ℕ, ◌+◌, ◌≤◌, arith, List, ◌∷◌, ◌++◌, codes, get_or, slice_get, Some, All, length-append}
use Rattle.std.proofs.lemmas.Option.{slice_get-get_or}
use Rattle.std.proofs.lemmas.List.Elements.{All-from_get_or}
use Rattle.etp_theory.specs.Trees.{Tree, var, op, Equation, ops, bound, leaves}
use Rattle.etp_theory.specs.Weights.{Weight}
use Rattle.etp_theory.specs.Overlaps.{HasSmallVariables}
use Rattle.etp_rules.specs.Deciding.{AreAllowed}
use Rattle.etp_text.specs.Written.{written_term}
use Rattle.etp_text.proofs.Lengths.{written_term_short}
use Rattle.etp_lines.specs.Claims.{Claims}
use Rattle.etp_items.specs.Bodies.{model, rules}
use Rattle.etp_items.specs.Written.{IsShortRule, IsShortBody}

one_more : (t : Tree) → leaves t ≡ ops t + 1
one_more (var v) = omega arith
one_more (op l r) = omega (arith, one_more l, one_more r)

-- sides of at most 12 operations
pub small_rule_short : (r : Equation) → ops r.left ≤ 12 → ops r.right ≤ 12 → bound r.left ≤ 64 → bound r.right ≤ 64 → IsShortRule r
small_rule_short r left right left_named right_named =
    let l = written_term r.left in
    let u = written_term r.right in
    omega (
      arith,
      one_more r.left,
      one_more r.right,
      written_term_short r.left left_named,
      written_term_short r.right right_named,
      length-append l (32 ∷ (codes "->" ++ 32 ∷ u)),
    )

-- rules with such sides and variables below 64
pub small_rules_short : (rs : List Equation) → ((i : ℕ) (r : Equation) → slice_get rs i ≡ Some r → (ops r.left ≤ 12) × (ops r.right ≤ 12)) → HasSmallVariables rs → All IsShortRule rs
small_rules_short rs few named =
    let none : Equation = record { left = var 0; right = var 0 } in
    All-from_get_or IsShortRule rs none (λ i l.
    let stands = slice_get-get_or rs i none l in
    let f = few i (get_or rs i none) stands in
    let n = named i (get_or rs i none) stands in
    small_rule_short (get_or rs i none) f.0 f.1 n.0 n.1)

pub allowed_rules_short : (w : Weight) (rs : List Equation) (claims : Claims) → AreAllowed w rs → HasSmallVariables rs → IsShortBody (model (rules w rs) claims)
allowed_rules_short w rs claims allowed named = small_rules_short rs (λ i r s. ((allowed i r s).left_small, (allowed i r s).right_small)) named
