-- Most general unifiers: finite maps and total functions, and other names of their variables.
use Rattle.std.proofs.Common.{◌≡◌, ℕ, ◌-◌, ◌+◌, ◌<◌, ◌≤◌, max, ◌⊎◌, inl, inr, List, ◌↔◌, refl, sym, ap, ◌∙◌, arith}
use Rattle.std.proofs.lemmas.Bool.{cases_eq}
use Rattle.etp_theory.specs.Trees.{Tree, var, op, bound, Occurs, renamed, Equation}
use Rattle.etp_theory.specs.Substitutions.{apply, then_apply, Partial, value_or, total}
use Rattle.etp_theory.specs.Unifiers.{IsMostGeneral, IsMostGeneralPartial, IsBest, NoUnifier}
use Rattle.etp_theory.specs.Overlaps.{Overlap, outer_part, inner_part}
use Rattle.etp_theory.specs.FailingOverlaps.{IsCriticalPair, KeepsApart}
use Rattle.etp_theory.proofs.Trees.{composed}
use Rattle.etp_theory.proofs.Matching.{apply_agree}
use Rattle.etp_theory.specs.Theorems.{UnificationTheorems}
use Rattle.etp_theory.proofs.Finite.{finite_enough}
use Rattle.etp_theory.proofs.Unifiers.{Mgu, mgu, unify, general, best_of, limit, finite, partial_of, total_of, partial_mgu, apply_same, occurs_bound, occurs_dec}
use Rattle.etp_theory.proofs.Sameness.{renamed_applied}
use Rattle.etp_theory.proofs.Renaming.{right_through}
use Rattle.etp_theory.proofs.Places.{first_below}

pub general_of_best : (a b : Tree) (m : ℕ → Tree) → IsBest m a b → IsMostGeneral m a b
general_of_best a b m h = record { unifies = h.unifies; factors = λ n e. (n, h.absorbed n e) }

-- finite maps

total_general : (m : Partial) (a b : Tree) → IsMostGeneralPartial m a b → IsMostGeneral (total m) a b
total_general m a b g = go (unify a b)
  where
    go : Mgu a b ⊎ NoUnifier a b → IsMostGeneral (total m) a b
    go (inl p) =
        let q = partial_of p.by (limit a b) in
        let k = g.factors q (partial_mgu a b p).unifies in
        let by : (v : ℕ) → apply (total k.0) (total m v) ≡ p.by v = λ v. k.1 v ∙ total_of p.by (limit a b) (finite a b p) v in
        record { unifies = g.unifies; factors = λ n e. (then_apply (total k.0) n, λ v. sym (composed (total k.0) n (total m v)) ∙ ap (apply n) (by v) ∙ p.absorbed n e v) }
    go (inr none) = absurd (none (total m) g.unifies)

absent_total : (m : Partial) (v : ℕ) → m.bound ≤ v → total m v ≡ var v
absent_total m v h = ap (λ o. value_or o (var v)) (m.absent v h)

partial_general : (m : Partial) (a b : Tree) → IsMostGeneral (total m) a b → IsMostGeneralPartial m a b
partial_general m a b g = record { unifies = g.unifies; factors = factor }
  where
    factor : (n : Partial) → apply (total n) a ≡ apply (total n) b → (k : Partial) × ((v : ℕ) → apply (total k) (total m v) ≡ total n v)
    factor n e =
        let k = g.factors (total n) e in
        let top : ℕ = max m.bound n.bound in
        let outside : (v : ℕ) → top ≤ v → k.0 v ≡ var v = λ v h. ap (apply k.0) (sym (absent_total m v (omega (arith, h)))) ∙ k.1 v ∙ absent_total n v (omega (arith, h)) in
        (partial_of k.0 top, λ v. apply_same (total (partial_of k.0 top)) k.0 (total_of k.0 top outside) (total m v) ∙ k.1 v)

pub general_finite : (m : Partial) (a b : Tree) → IsMostGeneralPartial m a b ↔ IsMostGeneral (total m) a b
general_finite m a b = (total_general m a b, partial_general m a b)

-- a finite one that is itself when applied twice, or none
decided : (a b : Tree) → Mgu a b ⊎ NoUnifier a b → ((m : Partial) × IsMostGeneralPartial m a b × ((v : ℕ) → apply (total m) (total m v) ≡ total m v)) ⊎ NoUnifier a b
decided a b (inl p) =
    let t = total_of p.by (limit a b) (finite a b p) in
    inl (partial_of p.by (limit a b), partial_mgu a b p, λ v. ap (apply (total (partial_of p.by (limit a b)))) (t v) ∙ apply_same _ p.by t (p.by v) ∙ p.absorbed p.by p.unifies v ∙ sym (t v))
decided a b (inr h) = inr h

pub laws_of_unifiers : UnificationTheorems
laws_of_unifiers = record {
  most_general = λ a b n e. let m = mgu a b n e in (m.by, general a b m);
  partial = λ a b n e. let m = finite_enough n a b in (m.0, m.1 ∙ e ∙ sym m.2);
  decided = λ a b. decided a b (unify a b);
  finite = general_finite;
  best = general_of_best;
  has_best = λ a b n e. let m = mgu a b n e in (m.by, best_of a b m);
}

-- other names

pub general_renamed : (f g : ℕ → ℕ) → ((v : ℕ) → g (f v) ≡ v) → (a b : Tree) (m : ℕ → Tree) → IsMostGeneral m a b → IsMostGeneral (then_apply m (λ v. var (f v))) a b
general_renamed f g back a b m h = record {
  unifies = sym (composed m (λ v. var (f v)) a) ∙ ap (apply (λ v. var (f v))) h.unifies ∙ composed m (λ v. var (f v)) b;
  factors = λ n e. let k = h.factors n e in
      (λ y. k.0 (g y), λ v. composed (λ x. var (f x)) (λ y. k.0 (g y)) (m v) ∙ apply_same (λ x. k.0 (g (f x))) k.0 (λ x. ap k.0 (back x)) (m v) ∙ k.1 v);
}

-- a renaming that keeps the variables of two terms apart, made one that keeps all variables apart
module _ (f : ℕ → ℕ) (s t : Tree) where
  abbrev pub Within : ℕ → Type 0
  Within v = Occurs v s ⊎ Occurs v t

  within_dec : (v : ℕ) → Within v ⊎ (Within v → ⊥)
  within_dec v = go (occurs_dec v s) (occurs_dec v t)
    where
      go : Occurs v s ⊎ (Occurs v s → ⊥) → Occurs v t ⊎ (Occurs v t → ⊥) → Within v ⊎ (Within v → ⊥)
      go (inl h) k = inl (inl h)
      go (inr h) (inl k) = inl (inr k)
      go (inr h) (inr k) = inr (elim [ inl o ↦ h o | inr o ↦ k o ])

  -- above all new names
  top : ℕ
  top = max (bound (renamed f s)) (bound (renamed f t))

  new_below : (v : ℕ) (u : Tree) → Occurs v u → f v < bound (renamed f u)
  new_below v (var x) o = omega (arith, ap f o)
  new_below v (op a b) (inl o) = omega (arith, new_below v a o)
  new_below v (op a b) (inr o) = omega (arith, new_below v b o)

  below_top : (v : ℕ) → Within v → f v < top
  unfolding top
  below_top v (inl o) = omega (arith, new_below v s o)
  below_top v (inr o) = omega (arith, new_below v t o)

  choose : (v : ℕ) → Within v ⊎ (Within v → ⊥) → ℕ
  choose v (inl o) = f v
  choose v (inr o) = v + top

  pub wider : ℕ → ℕ
  wider v = choose v (within_dec v)

  pub wider_within : (v : ℕ) → Within v → wider v ≡ f v
  unfolding wider choose
  wider_within v o = go (within_dec v)
    where
      go : (d : Within v ⊎ (Within v → ⊥)) → choose v d ≡ f v
      go (inl h) = refl
      go (inr h) = absurd (h o)

  -- and its way back
  abbrev NamedBy : ℕ → ℕ → Type 0
  NamedBy y v = Within v × (f v ≡ y)

  named_dec : (y v : ℕ) → (NamedBy y v → ⊥) ⊎ NamedBy y v
  named_dec y v = go (within_dec v) (cases_eq (f v) y)
    where
      go : Within v ⊎ (Within v → ⊥) → (f v ≡ y) ⊎ (f v ≡ y → ⊥) → (NamedBy y v → ⊥) ⊎ NamedBy y v
      go (inl o) (inl e) = inr (o, e)
      go (inl o) (inr e) = inl (λ n. e n.1)
      go (inr o) e = inl (λ n. o n.0)

  abbrev Named : ℕ → Type 0
  Named y = ((v : ℕ) → v < max (bound s) (bound t) → NamedBy y v → ⊥) ⊎ ((v : ℕ) × NamedBy y v × ((k : ℕ) → k < v → NamedBy y k → ⊥))

  named : (y : ℕ) → Named y
  named y = first_below (max (bound s) (bound t)) (λ v. NamedBy y v → ⊥) (NamedBy y) (named_dec y)

  old_below : (v : ℕ) → Within v → v < max (bound s) (bound t)
  old_below v (inl o) = omega (arith, occurs_bound v s o)
  old_below v (inr o) = omega (arith, occurs_bound v t o)

  came_from : (y : ℕ) → Named y → ℕ
  came_from y (inl none) = y - top
  came_from y (inr some) = some.0

  pub old : ℕ → ℕ
  old y = came_from y (named y)

  pub old_wider : KeepsApart f s t → (v : ℕ) → old (wider v) ≡ v
  unfolding old wider choose came_from
  old_wider apart v = go (within_dec v)
    where
      inside : Within v → (n : Named (f v)) → came_from (f v) n ≡ v
      inside o (inl none) = absurd (none v (old_below v o) (o, refl))
      inside o (inr some) = apart some.0 v some.1.0 o some.1.1

      outside : (n : Named (v + top)) → came_from (v + top) n ≡ v
      outside (inl none) = omega arith
      outside (inr some) = absurd (omega (arith, below_top some.0 some.1.0, some.1.1))

      go : (d : Within v ⊎ (Within v → ⊥)) → came_from (choose v d) (named (choose v d)) ≡ v
      go (inl o) = inside o (named (f v))
      go (inr o) = outside (named (v + top))

-- a critical pair's variables may have other names
pub pair_renamed : {rules : List Equation} (o : Overlap rules) (s t : Tree) (f : ℕ → ℕ) → KeepsApart f s t → IsCriticalPair o s t → IsCriticalPair o (renamed f s) (renamed f t)
pair_renamed o s t f apart p =
    let new : ℕ → Tree = λ v. var (wider f s t v) in
    let named_as : (u : Tree) → ((v : ℕ) → Occurs v u → Within f s t v) → renamed f u ≡ apply new u = λ u h. renamed_applied f u ∙ apply_agree (λ v. var (f v)) new u (λ v o. ap var (sym (wider_within f s t v (h v o)))) in
    record {
      unifier = then_apply p.unifier new;
      general = general_renamed (wider f s t) (old f s t) (old_wider f s t apart) (outer_part o) (inner_part o) p.unifier p.general;
      left = named_as s (λ v h. inl h) ∙ ap (apply new) p.left ∙ composed p.unifier new o.outer_rule.right;
      right = named_as t (λ v h. inr h) ∙ ap (apply new) p.right ∙ right_through o p.unifier new (then_apply p.unifier new) (λ v. refl);
    }
