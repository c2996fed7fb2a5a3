-- Normal forms that the strategy reaches within the limits, and walks that pass a limit.
use Rattle.std.specs.Prelude.{◌≡◌, ◌≢◌, ℕ, ◌<◌, ◌≤◌, List, None}
use Rattle.etp_theory.specs.Trees.{Tree, leaves, Equation}
use Rattle.etp_theory.specs.Strategy.{next, walk}
use Rattle.etp_theory.specs.Limits.{step_limit, leaf_limit}

-- the walk of `s` ends at `u` within the limits
pub record IsFormOf (rules : List Equation) (s u : Tree) : Type 0 where
  pub steps : ℕ
  pub few : steps ≤ step_limit
  pub reached : walk rules steps s ≡ u
  pub ended : next rules u ≡ None
  pub narrow : (k : ℕ) → leaves (walk rules k s) ≤ leaf_limit

-- both walks end at one term within the limits
pub record HaveOneForm (rules : List Equation) (s t : Tree) : Type 0 where
  pub form : Tree
  pub of_left : IsFormOf rules s form
  pub of_right : IsFormOf rules t form

-- the walk ends within the limits
abbrev pub HasForm : List Equation → Tree → Type 0
HasForm rules s = (u : Tree) × IsFormOf rules s u

-- after no more steps than a walk may take, a term has too many leaves
pub record PassesTermLimit (rules : List Equation) (s : Tree) : Type 0 where
  pub steps : ℕ
  pub few : steps ≤ step_limit
  pub wide : leaf_limit < leaves (walk rules steps s)

-- no such term comes, and after all the steps that a walk may take there is a next one
pub record PassesStepLimit (rules : List Equation) (s : Tree) : Type 0 where
  pub steps : ℕ
  pub all : steps ≡ step_limit
  pub narrow : (k : ℕ) → k ≤ steps → leaves (walk rules k s) ≤ leaf_limit
  pub going : next rules (walk rules steps s) ≢ None
