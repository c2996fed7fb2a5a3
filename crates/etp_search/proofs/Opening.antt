-- Terms with slots: how they grow when a slot is filled, and what they become.
use Rattle.std.proofs.Common.{◌≡◌, ◌≢◌, ◌<◌, ◌≤◌, ◌+◌, ◌-◌, ◌⊎◌, ℕ, min, cond, eqb, refl, inl, inr, arith, sym, ap, ◌∙◌, subst}
use Rattle.std.proofs.lemmas.Bool.{eq-eqb, ne_eqb, cases_eq}
use Rattle.etp_theory.specs.Trees.{Tree, var, op, leaves, Occurs}
use Rattle.etp_theory.specs.Substitutions.{apply, then_apply}
use Rattle.etp_theory.proofs.Trees.{composed, identity}
use Rattle.etp_theory.proofs.Matching.{apply_agree}
use Rattle.etp_search.specs.Spaces.{Space}
use Rattle.etp_search.specs.Filling.{at_one, FillsSlots, IsFilled}

-- how many places have no slot
abbrev pub closed : Tree → ℕ
closed (var v) = min 1 (64 - v)
closed (op l r) = closed l + closed r

-- places, those without a slot counted twice
abbrev pub filled : Tree → ℕ
filled t = leaves t + closed t

pub at_one_same : (x : ℕ) (w : Tree) (v : ℕ) → v ≡ x → at_one x w v ≡ w
at_one_same x w v h = ap (λ b. cond b w (var v)) (eq-eqb v x h)

pub at_one_other : (x : ℕ) (w : Tree) (v : ℕ) → v ≢ x → at_one x w v ≡ var v
at_one_other x w v h = ap (λ b. cond b w (var v)) (ne_eqb v x h)

-- how they grow

pub leaf_or_more : (t : Tree) → 1 ≤ leaves t
leaf_or_more (var v) = omega arith
leaf_or_more (op l r) = let h = leaf_or_more l in omega (arith, h)

pub closed_within : (t : Tree) → closed t ≤ leaves t
closed_within (var v) = omega arith
closed_within (op l r) = let h = closed_within l in let k = closed_within r in omega (arith, h, k)

pub leaves_applied : (s : ℕ → Tree) (t : Tree) → leaves t ≤ leaves (apply s t)
leaves_applied s (var v) = leaf_or_more (s v)
leaves_applied s (op l r) = let h = leaves_applied s l in let k = leaves_applied s r in omega (arith, h, k)

module _ (x : ℕ) (w : Tree) where
  pub leaves_more : 1 < leaves w → (t : Tree) → Occurs x t → leaves t < leaves (apply (at_one x w) t)
  leaves_more h (var v) k = subst (λ u. 1 < leaves u) (sym (at_one_same x w v k)) h
  leaves_more h (op l r) (inl k) = let a = leaves_more h l k in let b = leaves_applied (at_one x w) r in omega (arith, a, b)
  leaves_more h (op l r) (inr k) = let a = leaves_applied (at_one x w) l in let b = leaves_more h r k in omega (arith, a, b)

  pub filled_within : 64 ≤ x → 1 < filled w → (t : Tree) → filled t ≤ filled (apply (at_one x w) t)
  filled_within big h (var v) = go (cases_eq v x)
    where
      go : (v ≡ x) ⊎ (v ≢ x) → filled (var v) ≤ filled (at_one x w v)
      go (inl e) = subst (λ u. filled (var v) ≤ filled u) (sym (at_one_same x w v e)) (omega (arith, big, h, e))
      go (inr e) = subst (λ u. filled (var v) ≤ filled u) (sym (at_one_other x w v e)) (omega arith)
  filled_within big h (op l r) = let a = filled_within big h l in let b = filled_within big h r in omega (arith, a, b)

  pub filled_more : 64 ≤ x → 1 < filled w → (t : Tree) → Occurs x t → filled t < filled (apply (at_one x w) t)
  filled_more big h (var v) k = subst (λ u. filled (var v) < filled u) (sym (at_one_same x w v k)) (omega (arith, big, h, k))
  filled_more big h (op l r) (inl k) = let a = filled_more big h l k in let b = filled_within big h r in omega (arith, a, b)
  filled_more big h (op l r) (inr k) = let a = filled_within big h l in let b = filled_more big h r k in omega (arith, a, b)

  pub occurs_put : (y : ℕ) (t : Tree) → Occurs y (apply (at_one x w) t) → Occurs y w ⊎ Occurs y t
  occurs_put y (var v) k = go (cases_eq v x)
    where
      go : (v ≡ x) ⊎ (v ≢ x) → Occurs y w ⊎ Occurs y (var v)
      go (inl e) = inl (subst (Occurs y) (at_one_same x w v e) k)
      go (inr e) = inr (subst (Occurs y) (at_one_other x w v e) k)
  occurs_put y (op l r) (inl k) = left (occurs_put y l k)
    where
      left : Occurs y w ⊎ Occurs y l → Occurs y w ⊎ (Occurs y l ⊎ Occurs y r)
      left (inl h) = inl h
      left (inr h) = inr (inl h)
  occurs_put y (op l r) (inr k) = right (occurs_put y r k)
    where
      right : Occurs y w ⊎ Occurs y r → Occurs y w ⊎ (Occurs y l ⊎ Occurs y r)
      right (inl h) = inl h
      right (inr h) = inr (inr h)

pub occurs_applied : (s : ℕ → Tree) (x y : ℕ) (t : Tree) → Occurs x t → Occurs y (s x) → Occurs y (apply s t)
occurs_applied s x y (var v) h k = subst (λ z. Occurs y (s z)) (sym h) k
occurs_applied s x y (op l r) (inl h) k = inl (occurs_applied s x y l h k)
occurs_applied s x y (op l r) (inr h) k = inr (occurs_applied s x y r h k)

-- what they become

-- a term with a slot filled becomes what the term becomes
pub unfilled : (space : Space) (x : ℕ) (w t u : Tree) → 64 ≤ x → IsFilled space (apply (at_one x w) u) t → IsFilled space u t
unfilled space x w t u big f = record {
  within = f.within;
  by = then_apply (at_one x w) f.by;
  fills = λ v h. ap (apply f.by) (at_one_other x w v (λ e. omega (arith, big, h, e))) ∙ f.fills v h;
  becomes = sym (composed (at_one x w) f.by u) ∙ f.becomes;
}

-- by a variable
pub filled_variable : (space : Space) (x v : ℕ) (t u : Tree) (f : IsFilled space u t) → space.variables ≤ 64 → Occurs x u → f.by x ≡ var v → (v < space.variables) × IsFilled space (apply (at_one x (var v)) u) t
filled_variable space x v t u f few here is = (below, record { within = f.within; by = f.by; fills = f.fills; becomes = same ∙ f.becomes })
  where
    below : v < space.variables
    below = f.within.known v (subst (Occurs v) f.becomes (occurs_applied f.by x v u here (subst (Occurs v) (sym is) refl)))

    at_each : (y : ℕ) → (y ≡ x) ⊎ (y ≢ x) → apply f.by (at_one x (var v) y) ≡ f.by y
    at_each y (inl e) = ap (apply f.by) (at_one_same x (var v) y e) ∙ f.fills v (let b = below in omega (arith, b, few)) ∙ sym is ∙ ap f.by (sym e)
    at_each y (inr e) = ap (apply f.by) (at_one_other x (var v) y e)

    same : apply f.by (apply (at_one x (var v)) u) ≡ apply f.by u
    same = composed (at_one x (var v)) f.by u ∙ apply_agree (then_apply (at_one x (var v)) f.by) f.by u (λ y k. at_each y (cases_eq y x))

-- by an operation
pub filled_operation : (space : Space) (x n : ℕ) (a b t u : Tree) (f : IsFilled space u t) → 64 ≤ x → x < n → ((y : ℕ) → Occurs y u → y < n) → f.by x ≡ op a b → IsFilled space (apply (at_one x (op (var x) (var n))) u) t
filled_operation space x n a b t u f big less below is = record { within = f.within; by = by; fills = fills; becomes = same ∙ f.becomes }
  where
    rest : ℕ → Tree
    rest y = cond (eqb y n) b (f.by y)

    by : ℕ → Tree
    by y = cond (eqb y x) a (rest y)

    by_x : by x ≡ a
    by_x = ap (λ c. cond c a (rest x)) (eq-eqb x x refl)

    by_n : by n ≡ b
    by_n = ap (λ c. cond c a (rest n)) (ne_eqb n x (λ e. omega (arith, less, e))) ∙ ap (λ c. cond c b (f.by n)) (eq-eqb n n refl)

    by_other : (y : ℕ) → y ≢ x → y ≢ n → by y ≡ f.by y
    by_other y h k = ap (λ c. cond c a (rest y)) (ne_eqb y x h) ∙ ap (λ c. cond c b (f.by y)) (ne_eqb y n k)

    fills : FillsSlots by
    fills v h = by_other v (λ e. omega (arith, big, h, e)) (λ e. omega (arith, big, less, h, e)) ∙ f.fills v h

    at_each : (y : ℕ) → Occurs y u → (y ≡ x) ⊎ (y ≢ x) → apply by (at_one x (op (var x) (var n)) y) ≡ f.by y
    at_each y k (inl e) = ap (apply by) (at_one_same x (op (var x) (var n)) y e) ∙ (λ i. op (by_x i) (by_n i)) ∙ sym is ∙ ap f.by (sym e)
    at_each y k (inr e) = ap (apply by) (at_one_other x (op (var x) (var n)) y e) ∙ by_other y e (λ q. let lt = below y k in omega (arith, lt, q))

    same : apply by (apply (at_one x (op (var x) (var n))) u) ≡ apply f.by u
    same = composed (at_one x (op (var x) (var n))) by u ∙ apply_agree (then_apply (at_one x (op (var x) (var n))) by) f.by u (λ y k. at_each y k (cases_eq y x))

-- with no slot it becomes itself alone
pub filled_closed : (space : Space) (t u : Tree) → ((v : ℕ) → Occurs v u → v < 64) → IsFilled space u t → t ≡ u
filled_closed space t u none f = sym f.becomes ∙ apply_agree f.by var u (λ v h. f.fills v (none v h)) ∙ identity u

pub closed_filled : (space : Space) (u : Tree) → ((v : ℕ) → Occurs v u → v < 64) → ((v : ℕ) → Occurs v u → v < space.variables) → leaves u ≤ space.leaves → IsFilled space u u
closed_filled space u none known narrow = record { within = record { narrow = narrow; known = known }; by = var; fills = λ v h. refl; becomes = identity u }
