-- Finite magmas, and what holds in all of them.
use Rattle.std.specs.Prelude.{ℕ, ◌≤◌}
use Rattle.etp_theory.specs.Trees.{Equation}
use Rattle.etp_theory.specs.Magmas.{IsClosed, Holds}
use Rattle.etp_theory.specs.Tables.{below}

-- an operation on 0 to n - 1, where n is at least 1
pub record IsFiniteMagma (n : ℕ) (times : ℕ → ℕ → ℕ) : Type 0 where
  pub some : 1 ≤ n
  pub closed : IsClosed (below n) times

abbrev pub HoldsIn : ℕ → (ℕ → ℕ → ℕ) → Equation → Type 0
HoldsIn n times e = Holds (below n) times e.left e.right

-- in every finite magma in which the first law holds, the second one holds
abbrev pub FiniteImplies : Equation → Equation → Type 0
FiniteImplies e f = (n : ℕ) (times : ℕ → ℕ → ℕ) → IsFiniteMagma n times
    → HoldsIn n times e → HoldsIn n times f

-- in some finite magma the first law holds and the second one doesn't
pub record Separates (e f : Equation) : Type 0 where
  pub size : ℕ
  pub times : ℕ → ℕ → ℕ
  pub magma : IsFiniteMagma size times
  pub holds : HoldsIn size times e
  pub fails : HoldsIn size times f → ⊥
