use Rattle.std.proofs.Common.{◌≡◌, ◌≢◌, ℕ, zero, suc, ◌<◌, ◌≤◌, max, ◌⊎◌, inl, inr, Bool, true, false, cond, eqb, ltb, List, [], ◌∷◌, length, Option, Some, None, refl, sym, ap, ap₂, ◌∙◌, subst, arith, eqb-true, eq-eqb, ne_eqb, le-ltb, ltb-false}
use Rattle.std.proofs.lemmas.Bool.{cases_eq}
use Rattle.std.proofs.lemmas.Option.{same_Some}
use Rattle.etp_theory.specs.Trees.{Tree, var, op, ops, bound, Occurs}
use Rattle.etp_theory.specs.Substitutions.{apply, then_apply, Partial, value_or, total}
use Rattle.etp_theory.specs.Unifiers.{IsMostGeneral, IsMostGeneralPartial, IsBest, single, Difference, difference}
use Rattle.etp_theory.specs.Strategy.{first_some}
use Rattle.etp_theory.proofs.Trees.{composed}
use Rattle.etp_theory.proofs.Matching.{apply_agree}
use Rattle.etp_theory.proofs.Comparing.{equal_or_below}

pub apply_same : (m n : ℕ → Tree) → ((v : ℕ) → m v ≡ n v) → (t : Tree) → apply m t ≡ apply n t
apply_same m n h t = apply_agree m n t (λ v o. h v)

-- every unifier is unchanged by the most general one before it, so this one applied twice is itself
pub record Mgu (a b : Tree) : Type 0 where
  pub by : ℕ → Tree
  pub unifies : apply by a ≡ apply by b
  pub absorbed : (n : ℕ → Tree) → apply n a ≡ apply n b → (v : ℕ) → apply n (by v) ≡ n v
  pub values : (v : ℕ) → (Occurs v a → ⊥) → (Occurs v b → ⊥) → by v ≡ var v
  pub variables : (v y : ℕ) → Occurs y (by v) → (y ≡ v) ⊎ (Occurs y a ⊎ Occurs y b)

-- the variables of an instance
pub instance_occurs : (m : ℕ → Tree) (y : ℕ) (t : Tree) → Occurs y (apply m t) → (z : ℕ) × Occurs z t × Occurs y (m z)
instance_occurs m y (var x) o = (x, refl, o)
instance_occurs m y (op a b) (inl o) = let r = instance_occurs m y a o in (r.0, inl r.1, r.2)
instance_occurs m y (op a b) (inr o) = let r = instance_occurs m y b o in (r.0, inr r.1, r.2)

pub single_at : (x : ℕ) (b : Tree) → single x b x ≡ b
single_at x b = ap (λ c. cond c b (var x)) (eq-eqb x x refl)

pub single_other : (x : ℕ) (b : Tree) (v : ℕ) → (v ≡ x → ⊥) → single x b v ≡ var v
single_other x b v h = ap (λ c. cond c b (var v)) (ne_eqb v x h)

pub single_absorbed : (x : ℕ) (b : Tree) (n : ℕ → Tree) → n x ≡ apply n b → (v : ℕ) → apply n (single x b v) ≡ n v
single_absorbed x b n e v = go (eqb v x) refl
  where
    go : (c : Bool) → eqb v x ≡ c → apply n (cond c b (var v)) ≡ n v
    go true q = sym e ∙ ap n (sym (eqb-true v x q))
    go false q = refl

single_variables : (x : ℕ) (b : Tree) (v y : ℕ) → Occurs y (single x b v) → (y ≡ v) ⊎ Occurs y b
single_variables x b v y o = go (eqb v x) o
  where
    go : (c : Bool) → Occurs y (cond c b (var v)) → (y ≡ v) ⊎ Occurs y b
    go true o = inr o
    go false o = inl (sym o)

occurs_ops : (n : ℕ → Tree) (x : ℕ) (t : Tree) → Occurs x t → ops (n x) ≤ ops (apply n t)
occurs_ops n x (var y) o = subst (λ z. ops (n z) ≤ ops (n y)) o (omega arith)
occurs_ops n x (op a b) (inl o) = omega (arith, occurs_ops n x a o)
occurs_ops n x (op a b) (inr o) = omega (arith, occurs_ops n x b o)

no_cycle : (n : ℕ → Tree) (x : ℕ) (c d : Tree) → n x ≡ apply n (op c d) → Occurs x (op c d) → ⊥
no_cycle n x c d e (inl o) = omega (arith, occurs_ops n x c o, ap ops e)
no_cycle n x c d e (inr o) = omega (arith, occurs_ops n x d o, ap ops e)

pub absorbed_term : (m n : ℕ → Tree) → ((v : ℕ) → apply n (m v) ≡ n v) → (t : Tree) → apply n (apply m t) ≡ apply n t
absorbed_term m n h t = composed m n t ∙ apply_same (then_apply m n) n h t

pub through : (m k n : ℕ → Tree) → ((v : ℕ) → apply k (m v) ≡ n v) → (t : Tree) → apply k (apply m t) ≡ apply n t
through m k n h t = composed m k t ∙ apply_same (then_apply m k) n h t

-- the first difference

pub agree_eq : (s t : Tree) → difference s t ≡ None → s ≡ t
agree_eq (var x) (var y) h = go (eqb x y) refl h
  where
    go : (b : Bool) → eqb x y ≡ b → cond {A = Option Difference} b None (Some (record { variable = x; value = var y })) ≡ None → var x ≡ var y
    go true e k = ap var (eqb-true x y e)
    go false e k = absurd (cc)
agree_eq (var x) (op c d) h = absurd (cc)
agree_eq (op a b) (var y) h = absurd (cc)
agree_eq (op a b) (op c d) h = go (difference a c) refl h (agree_eq a c) (agree_eq b d)
  where
    go : (o : Option Difference) → difference a c ≡ o → first_some o (difference b d) ≡ None → (difference a c ≡ None → a ≡ c) → (difference b d ≡ None → b ≡ d) → op a b ≡ op c d
    go None e k f g = ap₂ op (f e) (g k)
    go (Some x) e k f g = absurd (cc)

-- what holds of a difference
pub record Facts (s t : Tree) (d : Difference) : Type 0 where
  pub forced : (n : ℕ → Tree) → apply n s ≡ apply n t → n d.variable ≡ apply n d.value
  pub proper : d.value ≡ var d.variable → ⊥
  pub there : Occurs d.variable s ⊎ Occurs d.variable t
  pub inside : (v : ℕ) → Occurs v d.value → Occurs v s ⊎ Occurs v t

wider : {A B C D : Type 0} → (A → C) → (B → D) → A ⊎ B → C ⊎ D
wider f g (inl a) = inl (f a)
wider f g (inr b) = inr (g b)

left_facts : (a b c e : Tree) (d : Difference) → Facts a c d → Facts (op a b) (op c e) d
left_facts a b c e d f = record { forced = λ n h. f.forced n (cc); proper = f.proper; there = wider (λ o. inl o) (λ o. inl o) f.there; inside = λ v o. wider (λ o. inl o) (λ o. inl o) (f.inside v o) }

right_facts : (a b c e : Tree) (d : Difference) → Facts b e d → Facts (op a b) (op c e) d
right_facts a b c e d f = record { forced = λ n h. f.forced n (cc); proper = f.proper; there = wider (λ o. inr o) (λ o. inr o) f.there; inside = λ v o. wider (λ o. inr o) (λ o. inr o) (f.inside v o) }

pub difference_facts : (s t : Tree) (d : Difference) → difference s t ≡ Some d → Facts s t d
difference_facts (var x) (var y) d h = go (eqb x y) refl h
  where
    go : (b : Bool) → eqb x y ≡ b → cond b None (Some (record { variable = x; value = var y })) ≡ Some d → Facts (var x) (var y) d
    go true e k = absurd (cc)
    go false e k = subst (Facts (var x) (var y)) (same_Some _ _ k) (record { forced = λ n q. q; proper = λ q. (let z = eq-eqb x y (let r : y ≡ x = cc in sym r) in cc); there = inl refl; inside = λ v o. inr o })
difference_facts (var x) (op a b) d h = subst (Facts (var x) (op a b)) (same_Some _ _ h) (record { forced = λ n q. q; proper = λ q. cc; there = inl refl; inside = λ v o. inr o })
difference_facts (op a b) (var y) d h = subst (Facts (op a b) (var y)) (same_Some _ _ h) (record { forced = λ n q. sym q; proper = λ q. cc; there = inr refl; inside = λ v o. inl o })
difference_facts (op a b) (op c e) d h = go (difference a c) refl h (difference_facts a c) (difference_facts b e)
  where
    go : (o : Option Difference) → difference a c ≡ o → first_some o (difference b e) ≡ Some d → ((x : Difference) → difference a c ≡ Some x → Facts a c x) → ((x : Difference) → difference b e ≡ Some x → Facts b e x) → Facts (op a b) (op c e) d
    go None q k f g = right_facts a b c e d (g d k)
    go (Some x) q k f g = left_facts a b c e d (f d (q ∙ k))

-- one round: the variable's value put everywhere
module _ (s t : Tree) (d : Difference) (f : Facts s t d) where
  unfoldable pub put : ℕ → Tree
  put = single d.variable d.value

  -- a variable after the round was there before it
  pub put_occurs : (v : ℕ) → Occurs v (apply put s) ⊎ Occurs v (apply put t) → Occurs v s ⊎ Occurs v t
  unfolding put
  put_occurs v (inl o) = let r = instance_occurs put v s o in go r.0 r.1 (single_variables d.variable d.value r.0 v r.2)
    where
      go : (z : ℕ) → Occurs z s → (v ≡ z) ⊎ Occurs v d.value → Occurs v s ⊎ Occurs v t
      go z k (inl e) = inl (subst (λ u. Occurs u s) (sym e) k)
      go z k (inr o) = f.inside v o
  put_occurs v (inr o) = let r = instance_occurs put v t o in go r.0 r.1 (single_variables d.variable d.value r.0 v r.2)
    where
      go : (z : ℕ) → Occurs z t → (v ≡ z) ⊎ Occurs v d.value → Occurs v s ⊎ Occurs v t
      go z k (inl e) = inr (subst (λ u. Occurs u t) (sym e) k)
      go z k (inr o) = f.inside v o

  put_absorbed : (n : ℕ → Tree) → apply n s ≡ apply n t → (v : ℕ) → apply n (put v) ≡ n v
  unfolding put
  put_absorbed n e = single_absorbed d.variable d.value n (f.forced n e)

  put_unified : (n : ℕ → Tree) → apply n s ≡ apply n t → apply n (apply put s) ≡ apply n (apply put t)
  put_unified n e = let g = absorbed_term put n (put_absorbed n e) in g s ∙ e ∙ sym (g t)

  put_value : (v : ℕ) → (Occurs v s → ⊥) → (Occurs v t → ⊥) → put v ≡ var v
  unfolding put
  put_value v h k = single_other d.variable d.value v (λ q. neither (subst (λ x. Occurs x s ⊎ Occurs x t) (sym q) f.there))
    where
      neither : Occurs v s ⊎ Occurs v t → ⊥
      neither (inl o) = h o
      neither (inr o) = k o

  round : Mgu (apply put s) (apply put t) → Mgu s t
  unfolding put
  round q = record {
    by = then_apply put q.by;
    unifies = sym (composed put q.by s) ∙ q.unifies ∙ composed put q.by t;
    absorbed = λ n e v. absorbed_term q.by n (q.absorbed n (put_unified n e)) (put v) ∙ put_absorbed n e v;
    values = λ v h k. ap (apply q.by) (put_value v h k) ∙ q.values v (λ o. neither v h k (put_occurs v (inl o))) (λ o. neither v h k (put_occurs v (inr o)));
    variables = λ v y o. let r = instance_occurs q.by y (put v) o in go v y r.0 r.1 (q.variables r.0 y r.2);
  }
    where
      neither : (v : ℕ) → (Occurs v s → ⊥) → (Occurs v t → ⊥) → Occurs v s ⊎ Occurs v t → ⊥
      neither v h k (inl o) = h o
      neither v h k (inr o) = k o

      either : (v y : ℕ) → (y ≡ v) ⊎ Occurs y d.value → (y ≡ v) ⊎ (Occurs y s ⊎ Occurs y t)
      either v y (inl e) = inl e
      either v y (inr o) = inr (f.inside y o)

      go : (v y z : ℕ) → Occurs z (put v) → (y ≡ z) ⊎ (Occurs y (apply put s) ⊎ Occurs y (apply put t)) → (y ≡ v) ⊎ (Occurs y s ⊎ Occurs y t)
      go v y z k (inl e) = either v y (single_variables d.variable d.value v y (subst (λ u. Occurs u (put v)) (sym e) k))
      go v y z k (inr o) = inr (put_occurs y o)

  -- a variable inside its own value has no unifier
  pub stuck : Occurs d.variable d.value → (n : ℕ → Tree) → apply n s ≡ apply n t → ⊥
  stuck o n e = go d.value refl o
    where
      go : (u : Tree) → d.value ≡ u → Occurs d.variable u → ⊥
      go (var y) q o = f.proper (q ∙ ap var o)
      go (op a b) q o = no_cycle n d.variable a b (f.forced n e ∙ ap (apply n) q) o

some_eq : (s t : Tree) → s ≡ t → Mgu s t
some_eq s t e = record { by = var; unifies = ap (apply var) e; absorbed = λ n q v. refl; values = λ v h k. refl; variables = λ v y o. inl (sym o) }

pub best_of : (a b : Tree) (p : Mgu a b) → IsBest p.by a b
best_of a b p = record { unifies = p.unifies; absorbed = p.absorbed; values = p.values; variables = p.variables }

unfoldable pub mgu_of : (a b : Tree) (m : ℕ → Tree) → IsBest m a b → Mgu a b
mgu_of a b m h = record { by = m; unifies = h.unifies; absorbed = h.absorbed; values = h.values; variables = h.variables }

pub round_best : (s t : Tree) (d : Difference) (f : Facts s t d) (m : ℕ → Tree) → IsBest m (apply (single d.variable d.value) s) (apply (single d.variable d.value) t) → IsBest (then_apply (single d.variable d.value) m) s t
unfolding round mgu_of put
round_best s t d f m h = best_of s t (round s t d f (mgu_of _ _ m h))

pub round_never : (s t : Tree) (d : Difference) (f : Facts s t d) → ((n : ℕ → Tree) → apply n (apply (single d.variable d.value) s) ≡ apply n (apply (single d.variable d.value) t) → ⊥) → (n : ℕ → Tree) → apply n s ≡ apply n t → ⊥
unfolding put
round_never s t d f h n e = h n (put_unified s t d f n e)

pub equal_best : (s t : Tree) → s ≡ t → IsBest var s t
unfolding some_eq
equal_best s t e = best_of s t (some_eq s t e)

-- the decision: a round leaves fewer variables

abbrev pub In : ℕ → List ℕ → Type 0
In v [] = ⊥
In v (x ∷ xs) = (x ≡ v) ⊎ In v xs

abbrev pub Inside : List ℕ → Tree → Type 0
Inside xs t = (v : ℕ) → Occurs v t → In v xs

abbrev pub without : ℕ → List ℕ → List ℕ
without x [] = []
without x (y ∷ ys) = cond (eqb y x) (without x ys) (y ∷ without x ys)

without_le : (x : ℕ) (xs : List ℕ) → length (without x xs) ≤ length xs
without_le x [] = omega arith
without_le x (y ∷ ys) = go (eqb y x) (without_le x ys)
  where
    go : (c : Bool) → length (without x ys) ≤ length ys → length (cond c (without x ys) (y ∷ without x ys)) ≤ suc (length ys)
    go true h = omega arith
    go false h = omega arith

without_lt : (x : ℕ) (xs : List ℕ) → In x xs → length (without x xs) < length xs
without_lt x [] o = elim o [ ]
without_lt x (y ∷ ys) (inl e) = subst (λ c. length (cond c (without x ys) (y ∷ without x ys)) < suc (length ys)) (sym (eq-eqb y x e)) (omega (arith, without_le x ys))
without_lt x (y ∷ ys) (inr o) = go (eqb y x) (without_lt x ys o)
  where
    go : (c : Bool) → length (without x ys) < length ys → length (cond c (without x ys) (y ∷ without x ys)) < suc (length ys)
    go true h = omega arith
    go false h = omega arith

without_in : (x v : ℕ) (xs : List ℕ) → In v xs → v ≢ x → In v (without x xs)
without_in x v [] o h = elim o [ ]
without_in x v (y ∷ ys) (inl e) h = subst (λ c. In v (cond c (without x ys) (y ∷ without x ys))) (sym (ne_eqb y x (λ q. h (sym e ∙ q)))) (inl e)
without_in x v (y ∷ ys) (inr o) h = go (eqb y x) (without_in x v ys o h)
  where
    go : (c : Bool) → In v (without x ys) → In v (cond c (without x ys) (y ∷ without x ys))
    go true k = k
    go false k = inr k

single_inside : (xs : List ℕ) (x : ℕ) (b : Tree) → Inside xs b → (Occurs x b → ⊥) → (t : Tree) → Inside xs t → Inside (without x xs) (apply (single x b) t)
single_inside xs x b hb h t ht v o = let r = instance_occurs (single x b) v t o in go r.0 r.1 (eqb r.0 x) refl r.2
  where
    go : (z : ℕ) → Occurs z t → (c : Bool) → eqb z x ≡ c → Occurs v (cond c b (var z)) → In v (without x xs)
    go z k true e o = without_in x v xs (hb v o) (λ q. h (subst (λ u. Occurs u b) q o))
    go z k false e o = without_in x v xs (ht v (subst (λ u. Occurs u t) o k)) (λ q. let f = eq-eqb z x (o ∙ q) in cc)

pub occurs_dec : (x : ℕ) (t : Tree) → Occurs x t ⊎ (Occurs x t → ⊥)
occurs_dec x (var y) = cases_eq y x
occurs_dec x (op a b) = go (occurs_dec x a) (occurs_dec x b)
  where
    go : Occurs x a ⊎ (Occurs x a → ⊥) → Occurs x b ⊎ (Occurs x b → ⊥) → Occurs x (op a b) ⊎ (Occurs x (op a b) → ⊥)
    go (inl h) k = inl (inl h)
    go (inr h) (inl k) = inl (inr k)
    go (inr h) (inr k) = inr (elim [ inl o ↦ h o | inr o ↦ k o ])

abbrev pub Outcome : Tree → Tree → Type 0
Outcome a b = Mgu a b ⊎ ((n : ℕ → Tree) → apply n a ≡ apply n b → ⊥)

after_round : (s t : Tree) (d : Difference) (f : Facts s t d) → Outcome (apply (single d.variable d.value) s) (apply (single d.variable d.value) t) → Outcome s t
unfolding put
after_round s t d f (inl q) = inl (round s t d f q)
after_round s t d f (inr h) = inr (λ n e. h n (put_unified s t d f n e))

some_difference_outcome : (xs : List ℕ) (s t : Tree) → Inside xs s → Inside xs t → (d : Difference) → Facts s t d → ((ys : List ℕ) → length ys < length xs → (a b : Tree) → Inside ys a → Inside ys b → Outcome a b) → Outcome s t
some_difference_outcome xs s t hs ht d f below = go (occurs_dec d.variable d.value)
  where
    inside : (v : ℕ) → Occurs v s ⊎ Occurs v t → In v xs
    inside v (inl o) = hs v o
    inside v (inr o) = ht v o

    value_inside : Inside xs d.value
    value_inside v o = inside v (f.inside v o)

    go : Occurs d.variable d.value ⊎ (Occurs d.variable d.value → ⊥) → Outcome s t
    go (inl o) = inr (stuck s t d f o)
    go (inr h) = after_round s t d f (below (without d.variable xs) (without_lt d.variable xs (inside d.variable f.there)) _ _ (single_inside xs d.variable d.value value_inside h s hs) (single_inside xs d.variable d.value value_inside h t ht))

unify_below : (k : ℕ) (xs : List ℕ) → length xs < k → (a b : Tree) → Inside xs a → Inside xs b → Outcome a b
unify_below zero xs h a b ha hb = absurd (omega arith)
unify_below (suc k) xs h a b ha hb = go (difference a b) refl
    (λ ys l. unify_below k ys (omega arith))
  where
    go : (o : Option Difference) → difference a b ≡ o → ((ys : List ℕ) → length ys < length xs → (a b : Tree) → Inside ys a → Inside ys b → Outcome a b) → Outcome a b
    go None e below = inl (some_eq a b (agree_eq a b e))
    go (Some d) e below = some_difference_outcome xs a b ha hb d (difference_facts a b d e) below

abbrev pub up_to : ℕ → List ℕ
up_to zero = []
up_to (suc n) = n ∷ up_to n

up_to_in : (n v : ℕ) → v < n → In v (up_to n)
up_to_in zero v h = absurd (omega arith)
up_to_in (suc n) v h = go (equal_or_below v n h) (up_to_in n v)
  where
    go : (v ≡ n) ⊎ (v < n) → (v < n → In v (up_to n)) → (n ≡ v) ⊎ In v (up_to n)
    go (inl e) i = inl (sym e)
    go (inr l) i = inr (i l)

pub occurs_bound : (v : ℕ) (t : Tree) → Occurs v t → v < bound t
occurs_bound v (var x) o = subst (λ z. z < suc x) o (omega arith)
occurs_bound v (op a b) (inl o) = omega (arith, occurs_bound v a o)
occurs_bound v (op a b) (inr o) = omega (arith, occurs_bound v b o)

pub unify : (a b : Tree) → Outcome a b
unify a b =
    let n : ℕ = max (bound a) (bound b) in
    unify_below (suc (length (up_to n))) (up_to n) (omega arith) a b (λ v o. up_to_in n v (omega (arith, occurs_bound v a o))) (λ v o. up_to_in n v (omega (arith, occurs_bound v b o)))

-- what has a unifier has a most general one
pub mgu : (a b : Tree) (n : ℕ → Tree) → apply n a ≡ apply n b → Mgu a b
mgu a b n e = go (unify a b)
  where
    go : Mgu a b ⊎ ((n : ℕ → Tree) → apply n a ≡ apply n b → ⊥) → Mgu a b
    go (inl m) = m
    go (inr h) = absurd (h n e)

pub general : (a b : Tree) (p : Mgu a b) → IsMostGeneral p.by a b
general a b p = record { unifies = p.unifies; factors = λ n e. (n, p.absorbed n e) }

pub limit : Tree → Tree → ℕ
limit a b = max (bound a) (bound b)

pub finite : (a b : Tree) (p : Mgu a b) (v : ℕ) → limit a b ≤ v → p.by v ≡ var v
unfolding limit
finite a b p v h = p.values v (λ o. omega (arith, occurs_bound v a o)) (λ o. omega (arith, occurs_bound v b o))

unfoldable pub partial_of : (m : ℕ → Tree) (limit : ℕ) → Partial
partial_of m limit = record { value = λ v. cond (ltb v limit) (Some (m v)) None; bound = limit; absent = λ v h. ap (λ c. cond c (Some (m v)) None) (le-ltb v limit h) }

pub total_of : (m : ℕ → Tree) (limit : ℕ) → ((v : ℕ) → limit ≤ v → m v ≡ var v) → (v : ℕ) → total (partial_of m limit) v ≡ m v
unfolding partial_of
total_of m limit h v = go (ltb v limit) refl
  where
    go : (c : Bool) → ltb v limit ≡ c → value_or (cond c (Some (m v)) None) (var v) ≡ m v
    go true e = refl
    go false e = sym (h v (ltb-false v limit e))

-- the same by finite partial maps
pub partial_mgu : (a b : Tree) (p : Mgu a b) → IsMostGeneralPartial (partial_of p.by (limit a b)) a b
partial_mgu a b p =
    let t = total_of p.by (limit a b) (finite a b p) in
    let s = apply_same (total (partial_of p.by (limit a b))) p.by t in
    record {
      unifies = s a ∙ p.unifies ∙ sym (s b);
      factors = λ n e. (n, λ v. ap (apply (total n)) (t v) ∙ p.absorbed (total n) e v);
    }
