-- A step by an equation at the root of a term, and below.
use Rattle.std.specs.Prelude.{◌≡◌, ℕ, List, ◌++◌, Bool}
use Rattle.etp_theory.specs.Trees.{Tree, Equation}
use Rattle.etp_theory.specs.Substitutions.{apply}
use Rattle.etp_theory.specs.Positions.{Side}
use Rattle.etp_search.specs.Shortest.{IsFirstPlace}

abbrev pub sides : Tree → Tree → Equation
sides left right = record { left = left; right = right }

-- one substitution takes the sides to the two terms
pub record IsRootStep (e : Equation) (s t : Tree) : Type 0 where
  pub by : ℕ → Tree
  pub before : apply by e.left ≡ s
  pub after : apply by e.right ≡ t

-- the position leads on to the first place of the step
pub record IsPlacedBelow (law : Equation) (s t : Tree) (above below : List Side) (reversed : Bool)
    : Type 0 where
  pub rest : List Side
  pub on : below ≡ above ++ rest
  pub first : IsFirstPlace law s t rest reversed
