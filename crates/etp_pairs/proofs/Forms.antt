-- Decreasing rules bring no new variables, so those of a form are those of its term.
use Rattle.std.proofs.Common.{◌≡◌, ℕ, zero, suc, ◌<◌, ◌≤◌, inl, inr, List, Option, Some, None, refl, sym, subst, arith}
use Rattle.etp_theory.specs.Trees.{Tree, var, op, Occurs, bound, Equation}
use Rattle.etp_theory.specs.Weights.{Weight, AllDecrease}
use Rattle.etp_theory.specs.Rewriting.{Step, at_root, in_left, in_right}
use Rattle.etp_theory.specs.Strategy.{next, go_on, walk}
use Rattle.etp_theory.specs.Forms.{IsFormOf}
use Rattle.etp_theory.proofs.Matching.{next_some}
use Rattle.etp_theory.proofs.Overlaps.{kept_variables}
use Rattle.etp_theory.proofs.Unifiers.{instance_occurs}
use Rattle.etp_unify.proofs.Singles.{in_instance}

below_bound : (v : ℕ) (t : Tree) → Occurs v t → v < bound t
below_bound v (var x) o = omega (arith, o)
below_bound v (op a b) (inl o) = omega (arith, below_bound v a o)
below_bound v (op a b) (inr o) = omega (arith, below_bound v b o)

bound_by : (n : ℕ) (t : Tree) → ((v : ℕ) → Occurs v t → v < n) → bound t ≤ n
bound_by n (var x) h = let k : x < n = h x refl in omega (arith, k)
bound_by n (op a b) h = omega (arith, bound_by n a (λ v o. h v (inl o)), bound_by n b (λ v o. h v (inr o)))

module _ (w : Weight) (rules : List Equation) (all : AllDecrease w rules) where
  of_step : (v : ℕ) {s t : Tree} → Step rules s t → Occurs v t → Occurs v s
  of_step v (at_root i e m listed h k) o =
      let x = instance_occurs m v e.right (subst (Occurs v) k o) in
      subst (Occurs v) (sym h) (in_instance m v x.0 e.left (kept_variables w e all.left_counts all.right_counts (all.each i e listed) x.0 x.1) x.2)
  of_step v (in_left c d) (inl o) = inl (of_step v d o)
  of_step v (in_left c d) (inr o) = inr o
  of_step v (in_right c d) (inl o) = inl o
  of_step v (in_right c d) (inr o) = inr (of_step v d o)

  of_walk : (v n : ℕ) (s : Tree) → Occurs v (walk rules n s) → Occurs v s
  of_walk v zero s o = o
  of_walk v (suc n) s o = go (next rules s) refl (of_walk v n) o
    where
      go : (x : Option Tree) → next rules s ≡ x → ((t : Tree) → Occurs v (walk rules n t) → Occurs v t) → Occurs v (go_on x s (λ t. walk rules n t)) → Occurs v s
      go None h i k = k
      go (Some t) h i k = of_step v (next_some rules s t h) (i t k)

  pub form_small : (n : ℕ) (s u : Tree) → IsFormOf rules s u → bound s ≤ n → bound u ≤ n
  form_small n s u f h = bound_by n u (λ v o. (let k = below_bound v s (of_walk v f.steps s (subst (Occurs v) (sym f.reached) o)) in omega (arith, k, h)))
