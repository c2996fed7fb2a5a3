-- The terms that are searched, which of them are neighbours, and how far they are from an end.
use Rattle.std.specs.Prelude.{◌≡◌, ◌⊎◌, ℕ, zero, suc, ◌<◌, ◌≤◌, Bool, List, All, AllPairs, ◌≢◌, length}
use Rattle.etp_theory.specs.Trees.{Tree, leaves, Occurs, Equation}
use Rattle.etp_theory.specs.Positions.{Side}
use Rattle.etp_theory.specs.Proofs.{as_read, IsStepBy}

-- a law to rewrite by, and terms in the variables below `variables` with at most so many leaves
pub record Space : Type 0 where
  pub law : Equation
  pub variables : ℕ
  pub leaves : ℕ

-- the term is one of the space
pub record IsSearchTerm (space : Space) (t : Tree) : Type 0 where
  pub narrow : leaves t ≤ space.leaves
  pub known : (v : ℕ) → Occurs v t → v < space.variables

-- the numbers of variables and leaves are small enough to be searched
pub record IsSearchable (space : Space) : Type 0 where
  pub few_variables : space.variables ≤ 64
  pub few_leaves : space.leaves ≤ 64
  pub left : (v : ℕ) → Occurs v space.law.left → v < 64
  pub right : (v : ℕ) → Occurs v space.law.right → v < 64

-- at a position a right step by the law leads from `s` to `t`; `reversed`: from right to left
pub record IsStepOf (law : Equation) (s t : Tree) : Type 0 where
  pub position : List Side
  pub reversed : Bool
  pub right : IsStepBy (as_read reversed law) position s t

-- terms of the space, and a step leads from the first to the second
pub record AreNeighbours (space : Space) (s t : Tree) : Type 0 where
  pub from : IsSearchTerm space s
  pub to : IsSearchTerm space t
  pub step : IsStepOf space.law s t

-- at most k steps between neighbours lead from the term to the end
abbrev pub IsWithin : Space → Tree → ℕ → Tree → Type 0
IsWithin space end zero s = IsSearchTerm space s × (s ≡ end)
IsWithin space end (suc k) s =
    IsWithin space end k s ⊎ ((t : Tree) × AreNeighbours space s t × IsWithin space end k t)

-- more than n terms have the property
pub record AreMoreThan (n : ℕ) (P : Tree → Type 0) : Type 0 where
  pub terms : List Tree
  pub different : AllPairs (λ s t. s ≢ t) terms
  pub each : All P terms
  pub many : n < length terms
