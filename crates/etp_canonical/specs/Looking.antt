-- What is found of the sides of a law. No public clause cites it.
use Rattle.std.specs.Prelude.{ℕ, List}
use Rattle.etp_theory.specs.Trees.{Equation}
use Rattle.etp_theory.specs.FailingOverlaps.{two_forms, term_limit, step_limit}
use Rattle.etp_term.specs.Terms.{tree_of}
use Rattle.etp_pairs.specs.declared.judging.Judged.{Judged}
use Rattle.etp_pairs.specs.declared.judging.Judged.TheVariants.{OneForm, TwoForms, TermLimit, StepLimit}
use Rattle.etp_canonical.specs.Judgements.{IsFoundOf, IsFormOfBoth}

abbrev pub IsLawJudged : List Equation → List Equation → ℕ → Judged → Type 0
IsLawJudged laws rules n (OneForm u) = IsFormOfBoth laws rules n (tree_of u)
IsLawJudged laws rules n (TwoForms u v) = IsFoundOf laws rules n (two_forms (tree_of u) (tree_of v))
IsLawJudged laws rules n TermLimit = IsFoundOf laws rules n term_limit
IsLawJudged laws rules n StepLimit = IsFoundOf laws rules n step_limit
