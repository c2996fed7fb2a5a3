use Rattle.etp_search.proofs.space.Space.is_searchable.Goals as goal

pub returns-then-is_below : goal.returns-then-is_below
returns-then-is_below c = (
  (λ h. record {
    few_variables = c.if-self-gt64.false;
    few_leaves = c.if-self-gt64-2.false;
    left = c.is_below.ensures.0 c.if-is_below.true;
    right = c.is_below-then-is_below.ensures.0 h;
  }),
  λ h. c.is_below-then-is_below.ensures.1 h.right,
)
