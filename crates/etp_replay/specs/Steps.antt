-- What is found of one step.
use Rattle.std.specs.Prelude.{◌≡◌, ℕ, ◌⊎◌, List, Some, None, IsSome}
use Rattle.etp_theory.specs.Trees.{Tree, Equation}
use Rattle.etp_theory.specs.Substitutions.{apply}
use Rattle.etp_theory.specs.Positions.{Side, sub_at}
use Rattle.etp_theory.specs.Proofs.{AgreeOutside, IsStepBy}
use Rattle.etp_replay.specs.declared.checking.StepCheck.{StepCheck}
use Rattle.etp_replay.specs.declared.checking.StepCheck.TheVariants.{Right, NoPlace, OutsideChanged, NoMatch}

-- the position is in both terms
abbrev pub IsInBoth : List Side → Tree → Tree → Type 0
IsInBoth p s t = IsSome (sub_at p s) × IsSome (sub_at p t)

-- no substitution takes the equation's sides to the two subterms
abbrev pub NoneTakes : Equation → List Side → Tree → Tree → Type 0
NoneTakes e p s t = (m : ℕ → Tree) → sub_at p s ≡ Some (apply m e.left)
    → sub_at p t ≡ Some (apply m e.right) → ⊥

-- the step is right, or the first of three tests that fails
abbrev pub IsStepCheck : Equation → List Side → Tree → Tree → StepCheck → Type 0
IsStepCheck e p s t Right = IsStepBy e p s t
IsStepCheck e p s t NoPlace = (sub_at p s ≡ None) ⊎ (sub_at p t ≡ None)
IsStepCheck e p s t OutsideChanged = IsInBoth p s t × (AgreeOutside p s t → ⊥)
IsStepCheck e p s t NoMatch = IsInBoth p s t × AgreeOutside p s t × NoneTakes e p s t
