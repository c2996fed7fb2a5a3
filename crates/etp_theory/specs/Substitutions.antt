-- Substitutions: total functions from variables to terms, and finite partial maps.
use Rattle.std.specs.Prelude.{◌≡◌, ℕ, ◌≤◌, ◌+◌, Option, Some, None}
use Rattle.etp_theory.specs.Trees.{Tree, var, op}

-- every variable replaced by its value
abbrev pub apply : (ℕ → Tree) → Tree → Tree
apply s (var v) = s v
apply s (op l r) = op (apply s l) (apply s r)

-- first `s`, then `t`
abbrev pub then_apply : (ℕ → Tree) → (ℕ → Tree) → ℕ → Tree
then_apply s t v = apply t (s v)

-- a finite partial map: no variable from `bound` on has a value
pub record Partial : Type 0 where
  pub value : ℕ → Option Tree
  pub bound : ℕ
  pub absent : (v : ℕ) → bound ≤ v → value v ≡ None

abbrev pub value_or : Option Tree → Tree → Tree
value_or None t = t
value_or (Some u) t = u

-- a variable without a value stays
abbrev pub total : Partial → ℕ → Tree
total s v = value_or (s.value v) (var v)

-- the term with its variables raised by 64
abbrev pub raise : Tree → Tree
raise t = apply (λ v. var (v + 64)) t
