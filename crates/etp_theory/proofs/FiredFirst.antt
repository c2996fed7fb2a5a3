-- The step that is fired is the first one of the term.
use Rattle.std.proofs.Common.{◌≡◌, ℕ, zero, suc, ◌+◌, ◌≤◌, ◌⊎◌, inl, inr, cond, List, [], ◌∷◌, Option, Some, None, slice_get, refl, sym, ap, ◌∙◌, subst, arith}
use Rattle.std.proofs.lemmas.Option.{same_Some}
use Rattle.etp_theory.specs.Trees.{Tree, var, op, Equation}
use Rattle.etp_theory.specs.Substitutions.{apply}
use Rattle.etp_theory.specs.Positions.{Side, to_left, to_right, sub_at}
use Rattle.etp_theory.specs.Rewriting.{StepAt}
use Rattle.etp_theory.specs.Strategy.{first_some, within, matcher, try_rule, next, Fired, fired_root, fired_inside, fired, TriedBefore}
use Rattle.etp_theory.proofs.Matching.{rule_none, next_none}
use Rattle.etp_theory.proofs.Rewriting.{step_of_at}
use Rattle.etp_theory.proofs.Firing.{fired_next}

-- the order of the positions that are tried

pub irreflexive : (p : List Side) → TriedBefore p p → ⊥
irreflexive [] h = h
irreflexive (to_left ∷ p) h = irreflexive p h
irreflexive (to_right ∷ p) h = irreflexive p h

pub transitive : (p q r : List Side) → TriedBefore p q → TriedBefore q r → TriedBefore p r
transitive [] q r h k = absurd h
transitive (d ∷ p) [] r h k = absurd k
transitive (d ∷ p) (e ∷ q) [] h k = tt
transitive (to_left ∷ p) (to_left ∷ q) (to_left ∷ r) h k = transitive p q r h k
transitive (to_left ∷ p) (to_left ∷ q) (to_right ∷ r) h k = tt
transitive (to_left ∷ p) (to_right ∷ q) (to_left ∷ r) h k = absurd k
transitive (to_left ∷ p) (to_right ∷ q) (to_right ∷ r) h k = tt
transitive (to_right ∷ p) (to_left ∷ q) (e ∷ r) h k = absurd h
transitive (to_right ∷ p) (to_right ∷ q) (to_left ∷ r) h k = absurd k
transitive (to_right ∷ p) (to_right ∷ q) (to_right ∷ r) h k = transitive p q r h k

inside : (d : Side) (p q : List Side) → (TriedBefore p q → TriedBefore (d ∷ p) (d ∷ q)) → (TriedBefore q p → TriedBefore (d ∷ q) (d ∷ p))
    → (p ≡ q) ⊎ (TriedBefore p q ⊎ TriedBefore q p) → (d ∷ p ≡ d ∷ q) ⊎ (TriedBefore (d ∷ p) (d ∷ q) ⊎ TriedBefore (d ∷ q) (d ∷ p))
inside d p q f g (inl e) = inl (ap (λ x. d ∷ x) e)
inside d p q f g (inr (inl h)) = inr (inl (f h))
inside d p q f g (inr (inr h)) = inr (inr (g h))

pub total : (p q : List Side) → (p ≡ q) ⊎ (TriedBefore p q ⊎ TriedBefore q p)
total [] [] = inl refl
total [] (d ∷ q) = inr (inr tt)
total (d ∷ p) [] = inr (inl tt)
total (to_left ∷ p) (to_left ∷ q) = inside to_left p q (λ h. h) (λ h. h) (total p q)
total (to_left ∷ p) (to_right ∷ q) = inr (inl tt)
total (to_right ∷ p) (to_left ∷ q) = inr (inr tt)
total (to_right ∷ p) (to_right ∷ q) = inside to_right p q (λ h. h) (λ h. h) (total p q)

-- at one place the lowest rule is fired

lowest : (n : ℕ) (rest : List Equation) (t : Tree) (x : Fired) → fired_root n rest t ≡ Some x → (i : ℕ) (e : Equation) (m : ℕ → Tree) → slice_get rest i ≡ Some e → t ≡ apply m e.left → x.number ≤ n + i
lowest n [] t x h i e m g k = absurd (cc)
lowest n (r ∷ rest) t x h i e m g k = go (try_rule r t) refl h i g (lowest (suc n) rest t x)
  where
    go : (o : Option Tree) → try_rule r t ≡ o → first_some (within (λ y. record { number = n; position = []; to = y }) o) (fired_root (suc n) rest t) ≡ Some x → (j : ℕ) → slice_get (r ∷ rest) j ≡ Some e → (fired_root (suc n) rest t ≡ Some x → (j' : ℕ) (e' : Equation) (m' : ℕ → Tree) → slice_get rest j' ≡ Some e' → t ≡ apply m' e'.left → x.number ≤ suc n + j') → x.number ≤ n + j
    go (Some y) q f j l later = let z : n ≡ x.number = ap (λ (u : Fired). u.number) (same_Some _ _ f) in omega (arith, z)
    go None q f (suc j) l later = omega (arith, later f j e m l k)
    go None q f zero l later =
        let first : r ≡ e = cc in
        let b = rule_none r t m (subst (λ (u : Equation). t ≡ apply m u.left) (sym first) k) in
        let c : Some (apply (matcher r.left t) r.right) ≡ None = sym (ap (λ z. cond z (Some (apply (matcher r.left t) r.right)) None) b) ∙ q in
        absurd (cc)

root_place : (n : ℕ) (rest : List Equation) (t : Tree) (x : Fired) → fired_root n rest t ≡ Some x → x.position ≡ []
root_place n [] t x h = absurd (cc)
root_place n (r ∷ rest) t x h = go (try_rule r t) h (root_place (suc n) rest t x)
  where
    go : (o : Option Tree) → first_some (within (λ y. record { number = n; position = []; to = y }) o) (fired_root (suc n) rest t) ≡ Some x → (fired_root (suc n) rest t ≡ Some x → x.position ≡ []) → x.position ≡ []
    go (Some y) f later = sym (ap (λ (u : Fired). u.position) (same_Some _ _ f))
    go None f later = later f

-- and none at a place that is tried before

abbrev First : List Side → ℕ → Fired → Type 0
First p i x = (TriedBefore p x.position → ⊥) × (p ≡ x.position → x.number ≤ i)

module _ (rules : List Equation) (i : ℕ) (e : Equation) (m : ℕ → Tree) (listed : slice_get rules i ≡ Some e) where
  none_there : (p : List Side) (s : Tree) → fired rules s ≡ None → sub_at p s ≡ Some (apply m e.left) → ⊥
  none_there p s h k =
      let none : next rules s ≡ None = sym (fired_next rules s) ∙ ap (within (λ (x : Fired). x.to)) h in
      next_none rules none (step_of_at rules p i e m s listed k)

  at_root : (s : Tree) (x : Fired) → fired_root 0 rules s ≡ Some x → s ≡ apply m e.left → First [] i x
  at_root s x h k = (λ b. b, λ q. omega (arith, lowest 0 rules s x h i e m listed k))

  pub first : (s : Tree) (x : Fired) → fired rules s ≡ Some x → (p : List Side) → sub_at p s ≡ Some (apply m e.left) → First p i x
  first (var v) x h [] k = at_root (var v) x h (same_Some _ _ k)
  first (var v) x h (to_left ∷ p) k = absurd (cc)
  first (var v) x h (to_right ∷ p) k = absurd (cc)
  first (op l r) x h p k = go (fired rules l) refl (fired rules r) refl h p k (first l) (first r)
    where
      go : (a : Option Fired) → fired rules l ≡ a → (b : Option Fired) → fired rules r ≡ b →
          first_some (within (fired_inside to_left (λ z. op z r)) a) (first_some (within (fired_inside to_right (λ z. op l z)) b) (fired_root 0 rules (op l r))) ≡ Some x →
          (q : List Side) → sub_at q (op l r) ≡ Some (apply m e.left) →
          ((y : Fired) → fired rules l ≡ Some y → (q' : List Side) → sub_at q' l ≡ Some (apply m e.left) → First q' i y) →
          ((y : Fired) → fired rules r ≡ Some y → (q' : List Side) → sub_at q' r ≡ Some (apply m e.left) → First q' i y) → First q i x
      go (Some y) f b g j q u in_l in_r = subst (First q i) (same_Some _ _ j) (left q u)
        where
          left : (q : List Side) → sub_at q (op l r) ≡ Some (apply m e.left) → First q i (fired_inside to_left (λ z. op z r) y)
          left [] u = (λ b. b, λ c. absurd (cc))
          left (to_left ∷ q) u = let w = in_l y f q u in (w.0, λ c. w.1 (cc))
          left (to_right ∷ q) u = (λ b. b, λ c. absurd (cc))
      go None f (Some y) g j q u in_l in_r = subst (First q i) (same_Some _ _ j) (right q u)
        where
          right : (q : List Side) → sub_at q (op l r) ≡ Some (apply m e.left) → First q i (fired_inside to_right (λ z. op l z) y)
          right [] u = (λ b. b, λ c. absurd (cc))
          right (to_left ∷ q) u = absurd (none_there q l f u)
          right (to_right ∷ q) u = let w = in_r y g q u in (w.0, λ c. w.1 (cc))
      go None f None g j [] u in_l in_r = at_root (op l r) x j (same_Some _ _ u)
      go None f None g j (to_left ∷ q) u in_l in_r = absurd (none_there q l f u)
      go None f None g j (to_right ∷ q) u in_l in_r = absurd (none_there q r g u)

pub fired_first : (rules : List Equation) (s : Tree) (x : Fired) → fired rules s ≡ Some x → (t : Tree) (h : StepAt rules s t) → (TriedBefore h.position x.position → ⊥) × (h.position ≡ x.position → x.number ≤ h.number)
fired_first rules s x f t h = first rules h.number h.rule h.by h.listed s x f h.position h.here
