use Rattle.std.proofs.Common.{◌≡◌, true≢false, [], ◌∷◌, length, length-append, sym, ap, ◌∙◌, arith}
use Rattle.std.proofs.lemmas.List.{map-append}
use Rattle.etp_theory.specs.Trees.{ops, leaves}
use Rattle.etp_theory.specs.Positions.{to_left, to_right}
use Rattle.etp_theory.proofs.Orders.{leaves_ops}
use Rattle.etp_term.specs.Terms.{tree_of}
use Rattle.etp_term.specs.Laws.{equation_of}
use Rattle.etp_term.specs.Positions.{side_of, position_of}
use Rattle.etp_term.specs.declared.position.Side.TheVariants.{L, R}
use Rattle.etp_search.proofs.FirstPlaces.{placed_on, no_variable, no_to_variable, first_left, first_right, not_by_left}
use Rattle.etp_search.proofs.leading.+find_place.Goals as goal

pub unreachable-requires : goal.unreachable-requires
unreachable-requires t c = let v = c.in_default-operands_of.ensures in no_variable (equation_of c.args.law.now) (tree_of c.args.from.now) (tree_of c.args.to.now) c.in_default.ensures v.0 v.1 c.requires.step

pub unreachable-requires-in_default-operands_of-2 : goal.unreachable-requires-in_default-operands_of-2
unreachable-requires-in_default-operands_of-2 t c = let v = c.in_default-operands_of-2.ensures in no_to_variable (equation_of c.args.law.now) (tree_of c.args.from.now) (tree_of c.args.to.now) c.in_default.ensures v.0 v.1 c.requires.step

pub find_place-requires : goal.find_place-requires
find_place-requires t c =
    let size : ops (tree_of c.args.from.now) ≡ t = c.decreases in
    let less = ap ops c.in-Some-operands_of.ensures in
    let wide = ap leaves c.in-Some-operands_of.ensures in
    let some = leaves_ops (tree_of c.in-Some-operands_of.mine.right.now) in
    let longer = ap length c.in_ok-push.ensures.ok ∙ length-append c.args.position.now (L ∷ []) in
    let room = c.requires.room in
    (omega (arith, size, less), ((c.leads_in_left.ensures.0 c.if-leads_in_left.true).1, omega (arith, wide, some, longer, room)))

pub find_place-requires-2 : goal.find_place-requires-2
find_place-requires-2 t c =
    let size : ops (tree_of c.args.from.now) ≡ t = c.decreases in
    let less = ap ops c.in-Some-operands_of.ensures in
    let wide = ap leaves c.in-Some-operands_of.ensures in
    let some = leaves_ops (tree_of c.in-Some-operands_of.mine.left.now) in
    let longer = ap length c.in_ok-push-2.ensures.ok ∙ length-append c.args.position.now (R ∷ []) in
    let room = c.requires.room in
    (omega (arith, size, less), ((not_by_left (equation_of c.args.law.now) (tree_of c.args.from.now) (tree_of c.args.to.now) c.in_default.ensures (tree_of c.in-Some-operands_of.mine.left.now) (tree_of c.in-Some-operands_of.mine.right.now) (tree_of c.in-Some-operands_of-2.theirs.left.now) (tree_of c.in-Some-operands_of-2.theirs.right.now) c.in-Some-operands_of.ensures c.in-Some-operands_of-2.ensures (λ m. true≢false (sym (c.leads_in_left.ensures.1 m) ∙ c.if-leads_in_left.false)) c.requires.step).1, omega (arith, wide, some, longer, room)))

pub returns-then-leads_in_left : goal.returns-then-leads_in_left
returns-then-leads_in_left t c =
    placed_on (equation_of c.args.law.now) (tree_of c.args.from.now) (tree_of c.args.to.now) (tree_of c.in-Some-operands_of.mine.left.now) (tree_of c.in-Some-operands_of-2.theirs.left.now) (position_of c.args.position.now) (position_of c.push.new.self) (position_of c.find_place.new.position) to_left c.in_ok-reversed.reversed
    (ap position_of c.in_ok-push.ensures.ok ∙ map-append side_of c.args.position.now (L ∷ []))
    (λ p k. first_left (equation_of c.args.law.now) (tree_of c.args.from.now) (tree_of c.args.to.now) c.in_default.ensures (tree_of c.in-Some-operands_of.mine.left.now) (tree_of c.in-Some-operands_of.mine.right.now) (tree_of c.in-Some-operands_of-2.theirs.left.now) (tree_of c.in-Some-operands_of-2.theirs.right.now) c.in-Some-operands_of.ensures c.in-Some-operands_of-2.ensures p c.in_ok-reversed.reversed (c.leads_in_left.ensures.0 c.if-leads_in_left.true).0 k)
    c.in_ok-reversed.ensures

pub returns : goal.returns
returns t c =
    placed_on (equation_of c.args.law.now) (tree_of c.args.from.now) (tree_of c.args.to.now) (tree_of c.in-Some-operands_of.mine.right.now) (tree_of c.in-Some-operands_of-2.theirs.right.now) (position_of c.args.position.now) (position_of c.push-2.new.self) (position_of c.find_place-2.new.position) to_right c.in_ok-reversed-2.reversed
    (ap position_of c.in_ok-push-2.ensures.ok ∙ map-append side_of c.args.position.now (R ∷ []))
    (λ p k. first_right (equation_of c.args.law.now) (tree_of c.args.from.now) (tree_of c.args.to.now) c.in_default.ensures (tree_of c.in-Some-operands_of.mine.left.now) (tree_of c.in-Some-operands_of.mine.right.now) (tree_of c.in-Some-operands_of-2.theirs.left.now) (tree_of c.in-Some-operands_of-2.theirs.right.now) c.in-Some-operands_of.ensures c.in-Some-operands_of-2.ensures p c.in_ok-reversed-2.reversed (λ m. true≢false (sym (c.leads_in_left.ensures.1 m) ∙ c.if-leads_in_left.false)) (not_by_left (equation_of c.args.law.now) (tree_of c.args.from.now) (tree_of c.args.to.now) c.in_default.ensures (tree_of c.in-Some-operands_of.mine.left.now) (tree_of c.in-Some-operands_of.mine.right.now) (tree_of c.in-Some-operands_of-2.theirs.left.now) (tree_of c.in-Some-operands_of-2.theirs.right.now) c.in-Some-operands_of.ensures c.in-Some-operands_of-2.ensures (λ m. true≢false (sym (c.leads_in_left.ensures.1 m) ∙ c.if-leads_in_left.false)) c.requires.step).0 k)
    c.in_ok-reversed-2.ensures
