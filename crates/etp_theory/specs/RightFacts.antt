-- What makes accepted facts right, over a list of laws and the numbers of their duals.
use Rattle.std.specs.Prelude.{◌≡◌, ℕ, List, Contains, Some}
use Rattle.etp_theory.specs.Trees.{Equation, law_dual}
use Rattle.etp_theory.specs.LawNumbers.{law_numbered, dual_number}
use Rattle.etp_theory.specs.Sameness.{Same}
use Rattle.etp_theory.specs.Derivations.{Derives}
use Rattle.etp_theory.specs.Reach.{Fact, implies, refutes}

-- both numbers are listed, and the first one's law derives the second one's
pub record Implies (laws : List Equation) (e f : ℕ) : Type 0 where
  pub hypothesis : Equation
  pub goal : Equation
  pub hypothesis_listed : law_numbered laws e ≡ Some hypothesis
  pub goal_listed : law_numbered laws f ≡ Some goal
  pub derived : Derives hypothesis goal

-- both numbers are listed, and the first one's law doesn't derive the second one's
pub record Refutes (laws : List Equation) (e f : ℕ) : Type 0 where
  pub holding : Equation
  pub failing : Equation
  pub holding_listed : law_numbered laws e ≡ Some holding
  pub failing_listed : law_numbered laws f ≡ Some failing
  pub apart : Derives holding failing → ⊥

-- an implication is derived; no law that a refutation has holding derives one that fails
abbrev pub IsRightFact : List Equation → Fact → Type 0
IsRightFact laws (implies e f) = Implies laws e f
IsRightFact laws (refutes holds fails) =
    (e f : ℕ) → Contains holds e → Contains fails f → Refutes laws e f

-- the dual number of a law is the number of a law that is the same as its dual
abbrev pub AreDualNumbers : List Equation → List ℕ → Type 0
AreDualNumbers laws duals = (n : ℕ) (p : Equation) → law_numbered laws n ≡ Some p
    → (q : Equation) × (law_numbered laws (dual_number duals n) ≡ Some q) × Same (law_dual p) q

pub record AreRightFacts (laws : List Equation) (duals : List ℕ) (facts : List Fact) : Type 0 where
  pub dual_numbers : AreDualNumbers laws duals
  pub each : (x : Fact) → Contains facts x → IsRightFact laws x
