-- What an answer and the truth values of a closure mean for two laws.
use Rattle.std.specs.Prelude.{ℕ, List, IsTrue, length}
use Rattle.etp_theory.specs.Trees.{Equation}
use Rattle.etp_theory.specs.LawNumbers.{IsLaw}
use Rattle.etp_theory.specs.RightFacts.{Implies, Refutes}
use Rattle.etp_laws.specs.Listing.{IsTheList}
use Rattle.etp_closure.specs.Closures.{Known, is_reached, is_covered}
use Rattle.etp_closure.specs.declared.facts.Answer.{Answer}
use Rattle.etp_closure.specs.declared.facts.Answer.TheVariants.{Implied, Refuted, Unsettled}

-- the first law derives the second by Birkhoff's rules; it doesn't; or nothing is said
abbrev pub Means : List Equation → ℕ → ℕ → Answer → Type 0
Means laws e f Implied = Implies laws e f
Means laws e f Refuted = Refutes laws e f
Means laws e f Unsettled = Unit {0}

-- Of the order's laws the first of a pair that is reached derives the second by Birkhoff's rules;
-- the first of a pair that is covered doesn't; and no pair is both.
pub record ClosureMeans (order : ℕ) (closure : Known) : Type 0 where
  pub reached : (laws : List Equation) (e f : ℕ) → IsTheList order laws → IsLaw (length laws) e
      → IsTrue (is_reached closure e f) → Implies laws e f
  pub covered : (laws : List Equation) (e f : ℕ) → IsTheList order laws
      → IsTrue (is_covered closure e f) → Refutes laws e f
  pub never_both : (e f : ℕ) → IsTrue (is_reached closure e f) → IsTrue (is_covered closure e f) → ⊥
