use Rattle.std.proofs.Common.{inl, [], ◌∷◌}
use Rattle.etp_theory.specs.LimitExamples.{commutative}
use Rattle.etp_theory.proofs.LimitExamples.{full_leaves, wide_leaves, widest_form, passes_wide, no_wide_form, endless, left_endless_only, left_wide_only}
use Rattle.etp_theory.proofs.limit_examples.Goals as goal

pub returns : goal.returns
returns c = record {
  full_leaves = full_leaves;
  wide_leaves = wide_leaves;
  widest_form = widest_form;
  one_more_leaf = passes_wide [];
  no_wide_form = no_wide_form;
  endless = endless;
  left_endless = inl endless.0;
  left_endless_only = left_endless_only;
  left_wide = inl (passes_wide (commutative ∷ []));
  left_wide_only = left_wide_only;
}
