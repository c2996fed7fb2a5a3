-- What an answer and the truth values of a closure mean for two laws.
use Rattle.std.specs.Prelude.{ℕ, List, IsTrue, length}
use Rattle.etp_theory.specs.Trees.{Equation}
use Rattle.etp_theory.specs.LawNumbers.{IsLaw}
use Rattle.etp_laws.specs.Listing.{IsTheList}
use Rattle.etp_closure.specs.Closures.{Known, is_reached, is_covered}
use Rattle.etp_closure.specs.declared.facts.Answer.{Answer}
use Rattle.etp_closure.specs.declared.facts.Answer.TheVariants.{Implied, Refuted, Unsettled}
use Rattle.etp_cancel.specs.FiniteFacts.{ImpliesFinitely, SeparatesNumbers}

-- the second law holds in every finite magma of the first; in some finite magma of the first it
-- doesn't; or nothing is said
abbrev pub Means : List Equation → ℕ → ℕ → Answer → Type 0
Means laws e f Implied = ImpliesFinitely laws e f
Means laws e f Refuted = SeparatesNumbers laws e f
Means laws e f Unsettled = Unit {0}

-- Of the laws of at most four operations the second of a pair that is reached holds in every finite
-- magma of the first; the second of a pair that is covered doesn't; and no pair is both.
pub record ClosureMeans (closure : Known) : Type 0 where
  pub reached : (laws : List Equation) (e f : ℕ) → IsTheList 4 laws → IsLaw (length laws) e
      → IsTrue (is_reached closure e f) → ImpliesFinitely laws e f
  pub covered : (laws : List Equation) (e f : ℕ) → IsTheList 4 laws
      → IsTrue (is_covered closure e f) → SeparatesNumbers laws e f
  pub never_both : (e f : ℕ) → IsTrue (is_reached closure e f) → IsTrue (is_covered closure e f) → ⊥
