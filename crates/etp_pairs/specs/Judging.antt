-- What is found of two terms.
use Rattle.std.specs.Prelude.{List}
use Rattle.etp_theory.specs.Trees.{Tree, Equation}
use Rattle.etp_theory.specs.Forms.{IsFormOf}
use Rattle.etp_theory.specs.FailingOverlaps.{two_forms, term_limit, step_limit, IsFinding}
use Rattle.etp_term.specs.Terms.{tree_of}
use Rattle.etp_pairs.specs.declared.judging.Judged.{Judged}
use Rattle.etp_pairs.specs.declared.judging.Judged.TheVariants.{OneForm, TwoForms, TermLimit, StepLimit}

-- one form of both within the limits, two different ones, or the limit that the left term's walk
-- passes, else the right term's
abbrev pub IsJudged : List Equation → Tree → Tree → Judged → Type 0
IsJudged rules s t (OneForm u) = IsFormOf rules s (tree_of u) × IsFormOf rules t (tree_of u)
IsJudged rules s t (TwoForms u v) = IsFinding rules s t (two_forms (tree_of u) (tree_of v))
IsJudged rules s t TermLimit = IsFinding rules s t term_limit
IsJudged rules s t StepLimit = IsFinding rules s t step_limit
