-- What makes facts about finite magmas right, over a list of laws and the numbers of their duals.
use Rattle.std.specs.Prelude.{◌≡◌, ℕ, List, Contains, Some}
use Rattle.etp_theory.specs.Trees.{Equation}
use Rattle.etp_theory.specs.LawNumbers.{law_numbered}
use Rattle.etp_theory.specs.Reach.{Fact, implies, refutes}
use Rattle.etp_theory.specs.RightFacts.{AreDualNumbers}
use Rattle.etp_cancel.specs.FiniteMagmas.{FiniteImplies, Separates}

-- both numbers are listed, and the second one's law holds in every finite magma of the first one's
pub record ImpliesFinitely (laws : List Equation) (e f : ℕ) : Type 0 where
  pub hypothesis : Equation
  pub goal : Equation
  pub hypothesis_listed : law_numbered laws e ≡ Some hypothesis
  pub goal_listed : law_numbered laws f ≡ Some goal
  pub implied : FiniteImplies hypothesis goal

-- both numbers are listed, and some finite magma has the first one's law and not the second one's
pub record SeparatesNumbers (laws : List Equation) (e f : ℕ) : Type 0 where
  pub holding : Equation
  pub failing : Equation
  pub holding_listed : law_numbered laws e ≡ Some holding
  pub failing_listed : law_numbered laws f ≡ Some failing
  pub apart : Separates holding failing

-- a proof's fact is implied; each law that holds is separated from each law that fails
abbrev pub IsRightFiniteFact : List Equation → Fact → Type 0
IsRightFiniteFact laws (implies e f) = ImpliesFinitely laws e f
IsRightFiniteFact laws (refutes holds fails) =
    (e f : ℕ) → Contains holds e → Contains fails f → SeparatesNumbers laws e f

pub record AreRightFiniteFacts (laws : List Equation) (duals : List ℕ) (facts : List Fact) : Type 0 where
  pub dual_numbers : AreDualNumbers laws duals
  pub each : (x : Fact) → Contains facts x → IsRightFiniteFact laws x
