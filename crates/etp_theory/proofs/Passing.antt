-- A system is convergent exactly where each overlap passes.
use Rattle.std.proofs.Common.{◌≡◌, ℕ, zero, suc, ◌≤◌, ◌⊎◌, inl, inr, List, Option, Some, None, refl, sym, ap, ap₂, ◌∙◌, subst, subst₂, arith}
use Rattle.etp_theory.specs.Trees.{Tree, leaves, Equation}
use Rattle.etp_theory.specs.Substitutions.{Partial, total, raise}
use Rattle.etp_theory.specs.Positions.{put_at}
use Rattle.etp_theory.specs.Weights.{Weight, AllDecrease}
use Rattle.etp_theory.specs.Strategy.{next, go_on, walk}
use Rattle.etp_theory.specs.Overlaps.{Overlap, outer_part, inner_part, left_result, right_result, HasSmallVariables, IsConvergent, PairPasses, no_unifier, one_form}
use Rattle.etp_theory.specs.Unifiers.{NoUnifier, IsMostGeneralPartial, IsBest}
use Rattle.etp_theory.specs.Forms.{IsFormOf, HaveOneForm}
use Rattle.etp_theory.proofs.Unifiers.{Mgu, mgu_of, unify, best_of, limit, finite, partial_of, total_of, partial_mgu, apply_same}
use Rattle.etp_theory.proofs.Renaming.{unifiers_agree}
use Rattle.etp_theory.proofs.Convergent.{walk_stays}

same_by : (a b : Tree) (n : ℕ → Tree) (h : IsBest n a b) (v : ℕ) → (mgu_of a b n h).by v ≡ n v
unfolding mgu_of
same_by a b n h v = refl

module _ (w : Weight) (rules : List Equation) where
  moved : (o : Overlap rules) (m n : ℕ → Tree) → ((v : ℕ) → m v ≡ n v) → HaveOneForm rules (left_result o m) (right_result o m) → HaveOneForm rules (left_result o n) (right_result o n)
  moved o m n h = subst₂ (HaveOneForm rules) (apply_same m n h o.outer_rule.right) (ap₂ (put_at o.position) (apply_same m n h o.outer_rule.left) (apply_same m n h (raise o.inner_rule.right)))

  passed : AllDecrease w rules → (o : Overlap rules) → PairPasses rules o → (m : Partial) → IsMostGeneralPartial m (outer_part o) (inner_part o) → HaveOneForm rules (left_result o (total m)) (right_result o (total m))
  passed all o (no_unifier h) m g = absurd (h (total m) g.unifies)
  passed all o (one_form n b h) m g =
      let a = outer_part o in
      let i = inner_part o in
      let p = mgu_of a i n b in
      let t : (v : ℕ) → total (partial_of p.by (limit a i)) v ≡ p.by v = total_of p.by (limit a i) (finite a i p) in
      let same : (v : ℕ) → p.by v ≡ n v = same_by a i n b in
      unifiers_agree w rules all o (partial_of p.by (limit a i)) m (partial_mgu a i p) g (moved o n (total (partial_of p.by (limit a i))) (λ v. sym (same v) ∙ sym (t v)) h)

  pub convergent_of : AllDecrease w rules → HasSmallVariables rules → ((o : Overlap rules) → PairPasses rules o) → IsConvergent w rules
  convergent_of all small h = record { decreasing = all; small = small; pairs = λ o m g. passed all o (h o) m g }

  pub passes : IsConvergent w rules → (o : Overlap rules) (m : ℕ → Tree) → IsBest m (outer_part o) (inner_part o) → HaveOneForm rules (left_result o m) (right_result o m)
  passes c o m b =
      let a = outer_part o in
      let i = inner_part o in
      let p = mgu_of a i m b in
      let t : (v : ℕ) → total (partial_of p.by (limit a i)) v ≡ p.by v = total_of p.by (limit a i) (finite a i p) in
      moved o (total (partial_of p.by (limit a i))) m (λ v. t v ∙ same_by a i m b v) (c.pairs o (partial_of p.by (limit a i)) (partial_mgu a i p))

  -- and so each overlap of a convergent system passes
  pub all_pass : IsConvergent w rules → (o : Overlap rules) → PairPasses rules o
  all_pass c o = go (unify (outer_part o) (inner_part o))
    where
      go : Mgu (outer_part o) (inner_part o) ⊎ NoUnifier (outer_part o) (inner_part o) → PairPasses rules o
      go (inl p) = let b = best_of (outer_part o) (inner_part o) p in one_form p.by b (passes c o p.by b)
      go (inr h) = no_unifier h

-- a walk that ended has no later term
pub walk_past : (rules : List Equation) (n k : ℕ) (s : Tree) → next rules (walk rules n s) ≡ None → n ≤ k → walk rules k s ≡ walk rules n s
walk_past rules zero k s h l = walk_stays rules k s h
walk_past rules (suc n) zero s h l = absurd (omega arith)
walk_past rules (suc n) (suc k) s h l = go (next rules s) (λ t e. walk_past rules n k t e (omega arith)) h
  where
    go : (o : Option Tree) → ((t : Tree) → next rules (walk rules n t) ≡ None → walk rules k t ≡ walk rules n t) → next rules (go_on o s (λ t. walk rules n t)) ≡ None → go_on o s (λ t. walk rules k t) ≡ go_on o s (λ t. walk rules n t)
    go None i h = refl
    go (Some t) i h = i t h

lt_or_le : (n k : ℕ) → (n ≤ k) ⊎ (k ≤ n)
lt_or_le n k = grind arith

pub form_of_walk : (rules : List Equation) (n : ℕ) (s : Tree) → n ≤ 100000 → next rules (walk rules n s) ≡ None → ((k : ℕ) → k ≤ n → leaves (walk rules k s) ≤ 512) → IsFormOf rules s (walk rules n s)
form_of_walk rules n s few ended narrow = record { steps = n; few = few; reached = refl; ended = ended; narrow = λ k. go k (lt_or_le n k) }
  where
    go : (k : ℕ) → (n ≤ k) ⊎ (k ≤ n) → leaves (walk rules k s) ≤ 512
    go k (inl l) = subst (λ t. leaves t ≤ 512) (sym (walk_past rules n k s ended l)) (narrow n (omega arith))
    go k (inr l) = narrow k l

-- one more step at the end of a walk
pub walk_step : (rules : List Equation) (n : ℕ) (s t : Tree) → next rules (walk rules n s) ≡ Some t → walk rules (suc n) s ≡ t
walk_step rules zero s t h = ap (λ o. go_on o s (λ t. t)) h
walk_step rules (suc n) s t h = go (next rules s) refl (λ x e. walk_step rules n x t e) h
  where
    go : (o : Option Tree) → next rules s ≡ o → ((x : Tree) → next rules (walk rules n x) ≡ Some t → walk rules (suc n) x ≡ t) → next rules (go_on o s (λ t. walk rules n t)) ≡ Some t → go_on o s (λ t. walk rules (suc n) t) ≡ t
    go None e i h = absurd (let q : None ≡ Some t = sym e ∙ h in cc)
    go (Some x) e i h = i x h
