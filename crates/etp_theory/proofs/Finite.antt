-- Total substitutions and finite partial maps do the same on any two terms, and give the same derivations.
use Rattle.std.proofs.Common.{◌≡◌, ℕ, ◌≤◌, max, Bool, cond, Some, None, ap, ap₂, subst₂, arith, lt-ltb}
use Rattle.etp_theory.specs.Trees.{Tree, var, op, bound, Equation}
use Rattle.etp_theory.specs.Substitutions.{apply, Partial, value_or, total}
use Rattle.etp_theory.specs.Derivations.{Concludes, by_law, reflexive, symmetric, transitive, congruent}
use Rattle.etp_theory.specs.FiniteDerivations.{ConcludesPartial, by_partial, reflexive as reflexive_partial, symmetric as symmetric_partial, transitive as transitive_partial, congruent as congruent_partial}
use Rattle.etp_theory.proofs.Unifiers.{partial_of}

-- a total substitution does on one law what some finite map does
restricted : (m : ℕ → Tree) (k : ℕ) (t : Tree) → bound t ≤ k → apply (total (partial_of m k)) t ≡ apply m t
unfolding partial_of
restricted m k (var v) h = ap (λ c. value_of c) (lt-ltb v k h)
  where
    value_of : Bool → Tree
    value_of c = value_or (cond c (Some (m v)) None) (var v)
restricted m k (op a b) h = ap₂ op (restricted m k a (omega arith)) (restricted m k b (omega arith))

pub finite_enough : (m : ℕ → Tree) (p q : Tree) → (s : Partial) × (apply (total s) p ≡ apply m p) × (apply (total s) q ≡ apply m q)
finite_enough m p q = let k : ℕ = max (bound p) (bound q) in (partial_of m k, restricted m k p (omega arith), restricted m k q (omega arith))

-- a derivation by total substitutions as one by finite partial maps
pub partial_of_total : (e : Equation) {p q : Tree} → Concludes e p q → ConcludesPartial e p q
partial_of_total e (by_law m) = let s = finite_enough m e.left e.right in subst₂ (ConcludesPartial e) s.1 s.2 (by_partial s.0)
partial_of_total e (reflexive t) = reflexive_partial t
partial_of_total e (symmetric d) = symmetric_partial (partial_of_total e d)
partial_of_total e (transitive d d') = transitive_partial (partial_of_total e d) (partial_of_total e d')
partial_of_total e (congruent d d') = congruent_partial (partial_of_total e d) (partial_of_total e d')

-- and back
pub total_of_partial : (e : Equation) {p q : Tree} → ConcludesPartial e p q → Concludes e p q
total_of_partial e (by_partial s) = by_law (total s)
total_of_partial e (reflexive_partial t) = reflexive t
total_of_partial e (symmetric_partial d) = symmetric (total_of_partial e d)
total_of_partial e (transitive_partial d d') = transitive (total_of_partial e d) (total_of_partial e d')
total_of_partial e (congruent_partial d d') = congruent (total_of_partial e d) (total_of_partial e d')
