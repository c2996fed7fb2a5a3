use Rattle.std.proofs.Common.{◌≡◌, ◌∷◌, sym, ap, ◌∙◌}
use Rattle.etp_theory.specs.Trees.{op}
use Rattle.etp_theory.specs.Positions.{to_left, to_right}
use Rattle.etp_term.specs.Terms.{tree_of}
use Rattle.etp_term.specs.Positions.{side_of, position_of}
use Rattle.etp_term.proofs.Opened.{tree_of-op}
use Rattle.etp_replay.proofs.Outside.{same_left, other_left, same_right, other_right}
use Rattle.etp_replay.proofs.checking.+agree_outside.Goals as goal

pub returns-then-agree_outside : goal.returns-then-agree_outside
returns-then-agree_outside t c =
    let here : tree_of c.args.from.now ≡ op (tree_of c.get.result.now) (tree_of c.get-then-agree_outside.result.now) = ap tree_of c.in-Op-Op-L.is-0 ∙ tree_of-op _ _ ∙ (λ i. op (tree_of (sym c.get.ensures i)) (tree_of (sym c.get-then-agree_outside.ensures i))) in
    let there : tree_of c.args.to.now ≡ op (tree_of c.get-in-Op-Op-L.result.now) (tree_of c.get-then-agree_outside-2.result.now) = ap tree_of c.in-Op-Op-L.is-1 ∙ tree_of-op _ _ ∙ (λ i. op (tree_of (sym c.get-in-Op-Op-L.ensures i)) (tree_of (sym c.get-then-agree_outside-2.ensures i))) in
    let place : position_of c.args.sides.now ≡ to_left ∷ position_of c.in-Some.rest.now = ap position_of c.in-Some.ensures.cases.0 ∙ ap (λ s. side_of s ∷ position_of c.in-Some.rest.now) c.in-Op-Op-L.is-2 in
    same_left (position_of c.args.sides.now) (position_of c.in-Some.rest.now) (tree_of c.args.from.now) (tree_of c.args.to.now) _ _ _ _ here there place c.agree_outside.result c.agree_outside.ensures c.if-agree_outside.true c.same_term.result c.same_term.ensures

pub returns-else-agree_outside : goal.returns-else-agree_outside
returns-else-agree_outside t c =
    let here : tree_of c.args.from.now ≡ op (tree_of c.get.result.now) (tree_of c.in-Op-Op-L.b) = ap tree_of c.in-Op-Op-L.is-0 ∙ tree_of-op _ _ ∙ (λ i. op (tree_of (sym c.get.ensures i)) (tree_of c.in-Op-Op-L.b)) in
    let there : tree_of c.args.to.now ≡ op (tree_of c.get-in-Op-Op-L.result.now) (tree_of c.in-Op-Op-L.d) = ap tree_of c.in-Op-Op-L.is-1 ∙ tree_of-op _ _ ∙ (λ i. op (tree_of (sym c.get-in-Op-Op-L.ensures i)) (tree_of c.in-Op-Op-L.d)) in
    let place : position_of c.args.sides.now ≡ to_left ∷ position_of c.in-Some.rest.now = ap position_of c.in-Some.ensures.cases.0 ∙ ap (λ s. side_of s ∷ position_of c.in-Some.rest.now) c.in-Op-Op-L.is-2 in
    other_left (position_of c.args.sides.now) (position_of c.in-Some.rest.now) (tree_of c.args.from.now) (tree_of c.args.to.now) _ _ _ _ here there place c.agree_outside.result c.agree_outside.ensures (λ h. let f = c.if-agree_outside.false in cc)

pub returns-then-agree_outside-2 : goal.returns-then-agree_outside-2
returns-then-agree_outside-2 t c =
    let here : tree_of c.args.from.now ≡ op (tree_of c.get-then-agree_outside-2-2.result.now) (tree_of c.get-in-Op-Op-R.result.now) = ap tree_of c.in-Op-Op-R.is-0 ∙ tree_of-op _ _ ∙ (λ i. op (tree_of (sym c.get-then-agree_outside-2-2.ensures i)) (tree_of (sym c.get-in-Op-Op-R.ensures i))) in
    let there : tree_of c.args.to.now ≡ op (tree_of c.get-then-agree_outside-2-3.result.now) (tree_of c.get-in-Op-Op-R-2.result.now) = ap tree_of c.in-Op-Op-R.is-1 ∙ tree_of-op _ _ ∙ (λ i. op (tree_of (sym c.get-then-agree_outside-2-3.ensures i)) (tree_of (sym c.get-in-Op-Op-R-2.ensures i))) in
    let place : position_of c.args.sides.now ≡ to_right ∷ position_of c.in-Some.rest.now = ap position_of c.in-Some.ensures.cases.0 ∙ ap (λ s. side_of s ∷ position_of c.in-Some.rest.now) c.in-Op-Op-R.is-2 in
    same_right (position_of c.args.sides.now) (position_of c.in-Some.rest.now) (tree_of c.args.from.now) (tree_of c.args.to.now) _ _ _ _ here there place c.agree_outside-in-Op-Op-R.result c.agree_outside-in-Op-Op-R.ensures c.if-agree_outside-2.true c.same_term-then-agree_outside-2.result c.same_term-then-agree_outside-2.ensures

pub returns-else-agree_outside-2 : goal.returns-else-agree_outside-2
returns-else-agree_outside-2 t c =
    let here : tree_of c.args.from.now ≡ op (tree_of c.in-Op-Op-R.a) (tree_of c.get-in-Op-Op-R.result.now) = ap tree_of c.in-Op-Op-R.is-0 ∙ tree_of-op _ _ ∙ (λ i. op (tree_of c.in-Op-Op-R.a) (tree_of (sym c.get-in-Op-Op-R.ensures i))) in
    let there : tree_of c.args.to.now ≡ op (tree_of c.in-Op-Op-R.c) (tree_of c.get-in-Op-Op-R-2.result.now) = ap tree_of c.in-Op-Op-R.is-1 ∙ tree_of-op _ _ ∙ (λ i. op (tree_of c.in-Op-Op-R.c) (tree_of (sym c.get-in-Op-Op-R-2.ensures i))) in
    let place : position_of c.args.sides.now ≡ to_right ∷ position_of c.in-Some.rest.now = ap position_of c.in-Some.ensures.cases.0 ∙ ap (λ s. side_of s ∷ position_of c.in-Some.rest.now) c.in-Op-Op-R.is-2 in
    other_right (position_of c.args.sides.now) (position_of c.in-Some.rest.now) (tree_of c.args.from.now) (tree_of c.args.to.now) _ _ _ _ here there place c.agree_outside-in-Op-Op-R.result c.agree_outside-in-Op-Op-R.ensures (λ h. let f = c.if-agree_outside-2.false in cc)
