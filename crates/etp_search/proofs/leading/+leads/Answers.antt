use Rattle.std.proofs.Common.{true≢false, [], refl, sym, ◌∙◌}
use Rattle.etp_term.specs.Terms.{tree_of}
use Rattle.etp_term.specs.Laws.{equation_of}
use Rattle.etp_search.proofs.FirstPlaces.{placed_step, no_variable, no_to_variable, left_part, right_part, not_by_left}
use Rattle.etp_search.proofs.leading.+leads.Goals as goal

pub returns-in-Some : goal.returns-in-Some
returns-in-Some t c = ((λ h. placed_step (equation_of c.args.law.now) (tree_of c.args.from.now) (tree_of c.args.to.now) [] c.in-Some.field-0 c.in-Some.ensures), λ h. refl)

pub returns-in_default-operands_of : goal.returns-in_default-operands_of
returns-in_default-operands_of t c =
    let v = c.in_default-operands_of.ensures in (
      (λ h. absurd (true≢false (sym h))),
      λ k. absurd (no_variable (equation_of c.args.law.now) (tree_of c.args.from.now) (tree_of c.args.to.now) c.in_default.ensures v.0 v.1 k),
    )

pub returns-in_default-operands_of-2 : goal.returns-in_default-operands_of-2
returns-in_default-operands_of-2 t c =
    let v = c.in_default-operands_of-2.ensures in (
      (λ h. absurd (true≢false (sym h))),
      λ k. absurd (no_to_variable (equation_of c.args.law.now) (tree_of c.args.from.now) (tree_of c.args.to.now) c.in_default.ensures v.0 v.1 k),
    )

pub returns-then-same_term : goal.returns-then-same_term
returns-then-same_term t c = (
  (λ h. right_part (equation_of c.args.law.now) (tree_of c.args.from.now) (tree_of c.args.to.now) c.in_default.ensures (tree_of c.in-Some-operands_of.mine.left.now) (tree_of c.in-Some-operands_of.mine.right.now) (tree_of c.in-Some-operands_of-2.theirs.left.now) (tree_of c.in-Some-operands_of-2.theirs.right.now) c.in-Some-operands_of.ensures c.in-Some-operands_of-2.ensures (c.same_term-then-not-same_term.ensures.0 c.if-same_term.true) (c.leads.ensures.0 h)),
  λ k. c.leads.ensures.1 (not_by_left (equation_of c.args.law.now) (tree_of c.args.from.now) (tree_of c.args.to.now) c.in_default.ensures (tree_of c.in-Some-operands_of.mine.left.now) (tree_of c.in-Some-operands_of.mine.right.now) (tree_of c.in-Some-operands_of-2.theirs.left.now) (tree_of c.in-Some-operands_of-2.theirs.right.now) c.in-Some-operands_of.ensures c.in-Some-operands_of-2.ensures (λ m. true≢false (sym (c.same_term.ensures.1 m.0) ∙ c.if-not-same_term.true)) k).1,
)

pub returns-else-same_term : goal.returns-else-same_term
returns-else-same_term t c = (
  (λ h. absurd (true≢false (sym h ∙ c.if-same_term.false))),
  λ k. c.same_term-then-not-same_term.ensures.1 (not_by_left (equation_of c.args.law.now) (tree_of c.args.from.now) (tree_of c.args.to.now) c.in_default.ensures (tree_of c.in-Some-operands_of.mine.left.now) (tree_of c.in-Some-operands_of.mine.right.now) (tree_of c.in-Some-operands_of-2.theirs.left.now) (tree_of c.in-Some-operands_of-2.theirs.right.now) c.in-Some-operands_of.ensures c.in-Some-operands_of-2.ensures (λ m. true≢false (sym (c.same_term.ensures.1 m.0) ∙ c.if-not-same_term.true)) k).0,
)

pub returns-then-leads : goal.returns-then-leads
returns-then-leads t c = (
  (λ h. left_part (equation_of c.args.law.now) (tree_of c.args.from.now) (tree_of c.args.to.now) c.in_default.ensures (tree_of c.in-Some-operands_of.mine.left.now) (tree_of c.in-Some-operands_of.mine.right.now) (tree_of c.in-Some-operands_of-2.theirs.left.now) (tree_of c.in-Some-operands_of-2.theirs.right.now) c.in-Some-operands_of.ensures c.in-Some-operands_of-2.ensures (c.same_term.ensures.0 c.if-not-same_term.false) (c.leads-2.ensures.0 c.if-leads.true)),
  λ k. refl,
)

pub returns-then-same_term-2 : goal.returns-then-same_term-2
returns-then-same_term-2 t c = (
  (λ h. right_part (equation_of c.args.law.now) (tree_of c.args.from.now) (tree_of c.args.to.now) c.in_default.ensures (tree_of c.in-Some-operands_of.mine.left.now) (tree_of c.in-Some-operands_of.mine.right.now) (tree_of c.in-Some-operands_of-2.theirs.left.now) (tree_of c.in-Some-operands_of-2.theirs.right.now) c.in-Some-operands_of.ensures c.in-Some-operands_of-2.ensures (c.same_term-2.ensures.0 c.if-same_term-2.true) (c.leads-then-same_term-2.ensures.0 h)),
  λ k. c.leads-then-same_term-2.ensures.1 (not_by_left (equation_of c.args.law.now) (tree_of c.args.from.now) (tree_of c.args.to.now) c.in_default.ensures (tree_of c.in-Some-operands_of.mine.left.now) (tree_of c.in-Some-operands_of.mine.right.now) (tree_of c.in-Some-operands_of-2.theirs.left.now) (tree_of c.in-Some-operands_of-2.theirs.right.now) c.in-Some-operands_of.ensures c.in-Some-operands_of-2.ensures (λ m. true≢false (sym (c.leads-2.ensures.1 m.1) ∙ c.if-leads.false)) k).1,
)

pub returns-else-same_term-2 : goal.returns-else-same_term-2
returns-else-same_term-2 t c = (
  (λ h. absurd (true≢false (sym h ∙ c.if-same_term-2.false))),
  λ k. c.same_term-2.ensures.1 (not_by_left (equation_of c.args.law.now) (tree_of c.args.from.now) (tree_of c.args.to.now) c.in_default.ensures (tree_of c.in-Some-operands_of.mine.left.now) (tree_of c.in-Some-operands_of.mine.right.now) (tree_of c.in-Some-operands_of-2.theirs.left.now) (tree_of c.in-Some-operands_of-2.theirs.right.now) c.in-Some-operands_of.ensures c.in-Some-operands_of-2.ensures (λ m. true≢false (sym (c.leads-2.ensures.1 m.1) ∙ c.if-leads.false)) k).0,
)
