-- Terms with slots: variables from 64 on, for which any terms may be put in.
use Rattle.std.specs.Prelude.{◌≡◌, ◌⊎◌, ℕ, ◌<◌, ◌≤◌, cond, eqb}
use Rattle.etp_theory.specs.Trees.{Tree, var, Occurs}
use Rattle.etp_theory.specs.Substitutions.{apply}
use Rattle.etp_search.specs.Spaces.{Space, IsSearchTerm}

-- the one variable replaced by the term
abbrev pub at_one : ℕ → Tree → ℕ → Tree
at_one x u v = cond (eqb v x) u (var v)

-- the variables are those below m, and slots below n
abbrev pub IsOpen : ℕ → ℕ → Tree → Type 0
IsOpen m n t = (v : ℕ) → Occurs v t → (v < m) ⊎ ((64 ≤ v) × (v < n))

-- terms for the slots alone
abbrev pub FillsSlots : (ℕ → Tree) → Type 0
FillsSlots s = (v : ℕ) → v < 64 → s v ≡ var v

-- a term of the space that the term with slots becomes by terms for its slots
pub record IsFilled (space : Space) (slotted : Tree) (t : Tree) : Type 0 where
  pub within : IsSearchTerm space t
  pub by : ℕ → Tree
  pub fills : FillsSlots by
  pub becomes : apply by slotted ≡ t
