-- What unification of two terms gives.
use Rattle.std.specs.Prelude.{◌≡◌, ◌⊎◌, ℕ, Some, None}
use Rattle.etp_theory.specs.Trees.{Tree, Occurs}
use Rattle.etp_theory.specs.Substitutions.{apply, Partial, total}
use Rattle.etp_theory.specs.Unifiers.{IsMostGeneralPartial, NoUnifier}
use Rattle.etp_match.specs.Bindings.{partial_of}
use Rattle.etp_unify.specs.declared.unifying.Unified.{Unified}
use Rattle.etp_unify.specs.declared.unifying.Unified.TheVariants.{Most, Never}

-- a most general unifier that is itself when applied twice, with values for variables of both terms
-- alone, in which only such variables stand, and none that has a value
pub record IsMost (m : Partial) (s t : Tree) : Type 0 where
  pub general : IsMostGeneralPartial m s t
  pub twice : (v : ℕ) → apply (total m) (total m v) ≡ total m v
  pub values : (v : ℕ) (u : Tree) → m.value v ≡ Some u → Occurs v s ⊎ Occurs v t
  pub variables : (v y : ℕ) (u : Tree) → m.value v ≡ Some u → Occurs y u
      → (m.value y ≡ None) × (Occurs y s ⊎ Occurs y t)

abbrev pub IsUnified : Tree → Tree → Unified → Type 0
IsUnified s t (Most m) = IsMost (partial_of m) s t
IsUnified s t Never = NoUnifier s t
