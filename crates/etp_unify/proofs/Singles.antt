-- Substitutions of one variable alone, and which variables stand in instances.
use Rattle.std.proofs.Common.{◌≡◌, ℕ, ◌⊎◌, inl, inr, sym, subst}
use Rattle.std.proofs.lemmas.Bool.{cases_eq}
use Rattle.etp_theory.specs.Trees.{Tree, var, op, Occurs}
use Rattle.etp_theory.specs.Substitutions.{apply}
use Rattle.etp_theory.specs.Unifiers.{single}
use Rattle.etp_theory.proofs.Unifiers.{single_at, single_other}

-- a variable stands in the value, or is the one itself and another one
pub single_variables : (x : ℕ) (u : Tree) (v y : ℕ) → Occurs y (single x u v) → ((v ≡ x) × Occurs y u) ⊎ ((v ≡ x → ⊥) × (v ≡ y))
single_variables x u v y o = go (cases_eq v x)
  where
    go : (v ≡ x) ⊎ (v ≡ x → ⊥) → ((v ≡ x) × Occurs y u) ⊎ ((v ≡ x → ⊥) × (v ≡ y))
    go (inl q) = inl (q, subst (Occurs y) (single_at x u) (subst (λ w. Occurs y (single x u w)) q o))
    go (inr q) = inr (q, subst (Occurs y) (single_other x u v q) o)

-- a variable that doesn't stand in the term
pub single_unused : (x : ℕ) (u t : Tree) → (Occurs x t → ⊥) → apply (single x u) t ≡ t
single_unused x u (var v) h = single_other x u v h
single_unused x u (op a b) h = λ i. op (single_unused x u a (λ o. h (inl o)) i) (single_unused x u b (λ o. h (inr o)) i)

-- a variable of a value stands in the instance
pub in_instance : (m : ℕ → Tree) (y z : ℕ) (t : Tree) → Occurs z t → Occurs y (m z) → Occurs y (apply m t)
in_instance m y z (var x) o k = subst (λ w. Occurs y (m w)) (sym o) k
in_instance m y z (op a b) (inl o) k = inl (in_instance m y z a o k)
in_instance m y z (op a b) (inr o) k = inr (in_instance m y z b o k)
