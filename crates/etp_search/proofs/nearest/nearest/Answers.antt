use Rattle.std.proofs.Common.{◌≡◌, true≢false, sym, ◌∙◌, subst, arith}
use Rattle.std.specs.Option.{option_copied, option_map}
use Rattle.etp_term.specs.Terms.{tree_of}
use Rattle.etp_term.specs.Laws.{equation_of}
use Rattle.etp_search.specs.Spaces.{IsStepOf, AreNeighbours}
use Rattle.etp_search.specs.Programs.{space_of}
use Rattle.etp_search.specs.Levels.{StandsIn, IsLeastIn}
use Rattle.etp_search.proofs.Standing.{stands_wider, not_past}
use Rattle.etp_search.proofs.LeastTerms.{least_more, least_nothing, least_same, least_narrow}
use Rattle.etp_search.proofs.nearest.nearest.Goals as goal

pub returns-then-not-has : goal.returns-then-not-has
returns-then-not-has c = λ u k n. true≢false (sym (c.has.ensures.1 n.from) ∙ c.if-not-has.true)

pub loop-at-init : goal.loop-at-init
loop-at-init c = least_nothing (IsStepOf (equation_of c.args.space.law.now) (tree_of c.args.from.now)) c.args.seen.now c.args.start

pub unreachable-requires : goal.unreachable-requires
unreachable-requires c = not_past c.args.seen.now c.loop-at.at (let h = c.loop-at-test.true in let k = c.requires.stop in omega (arith, h, k)) (sym c.in_default.ensures)

pub nearer-least-requires-clause-least : goal.nearer-least-requires-clause-least
nearer-least-requires-clause-least c =
    least_narrow (IsStepOf (equation_of c.args.space.law.now) (tree_of c.args.from.now)) c.args.seen.now c.args.start c.loop-at.at 64 c.loop-at.least
    (λ t h. let n = (c.requires.terms t (stands_wider c.args.seen.now c.args.start c.loop-at.at 0 c.args.stop t (omega arith) (let l = c.loop-at-test.true in omega (arith, l)) h)).narrow in let k = c.requires.space.few_leaves in omega (arith, n, k))
    c.loop-at.invariant

pub nearer-least-requires-clause-term : goal.nearer-least-requires-clause-term
nearer-least-requires-clause-term c =
    let here : StandsIn c.args.seen.now 0 c.args.stop (tree_of c.in-Some.term.now) = record { place = c.loop-at.at; from = omega arith; before = c.loop-at-test.true; stands = sym c.in-Some.ensures } in
    let n = (c.requires.terms (tree_of c.in-Some.term.now) here).narrow in
    let k = c.requires.space.few_leaves in
    omega (arith, n, k)

pub loop-at-preserved : goal.loop-at-preserved
loop-at-preserved c =
    least_more (equation_of c.args.space.law.now) (tree_of c.args.from.now) c.args.seen.now c.args.start c.loop-at.at (tree_of c.in-Some.term.now) c.loop-at.auto.at (sym c.in-Some.ensures)
    (option_map tree_of (option_copied c.loop-at.least)) (option_map tree_of (option_copied c.nearer-least.result)) c.nearer-least.ensures c.loop-at.invariant

pub returns : goal.returns
returns c =
    let s = tree_of c.args.from.now in
    let space = space_of c.args.space in
    let at_end : c.loop-at.at ≡ c.args.stop = (let a = c.loop-at-test.false in let b = c.loop-at.auto.at-end c.requires.order in omega (arith, a, b)) in
    least_same (IsStepOf (equation_of c.args.space.law.now) s) (AreNeighbours space s) c.args.seen.now c.args.start c.args.stop (option_map tree_of (option_copied c.loop-at.least))
    (λ t h p. record { from = c.has.ensures.0 c.if-not-has.false; to = c.requires.terms t (stands_wider c.args.seen.now c.args.start c.args.stop 0 c.args.stop t (omega arith) (omega arith) h); step = p })
    (λ t h n. n.step)
    (subst (λ m. IsLeastIn (IsStepOf (equation_of c.args.space.law.now) s) c.args.seen.now c.args.start m (option_map tree_of (option_copied c.loop-at.least))) at_end c.loop-at.invariant)
