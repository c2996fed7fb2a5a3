-- A round of unification leaves fewer variables.
use Rattle.std.proofs.Common.{◌≡◌, ℕ, zero, suc, ◌<◌, ◌≤◌, ◌+◌, ◌-◌, max, ◌⊎◌, inl, inr, Bool, true, false, cond, eqb, refl, sym, ap, ◌∙◌, subst, arith, eqb-true, eq-eqb}
use Rattle.etp_theory.specs.Trees.{Tree, var, op, bound, Occurs}
use Rattle.etp_theory.specs.Substitutions.{apply}
use Rattle.etp_theory.specs.Unifiers.{Difference, single, has, count_to, remaining}
use Rattle.etp_theory.proofs.Comparing.{equal_or_below}
use Rattle.etp_theory.proofs.Unifiers.{Facts, put, put_occurs, instance_occurs, occurs_bound}

has_of : (v : ℕ) (t : Tree) → Occurs v t → has v t ≡ true
has_of v (var x) o = eq-eqb x v o
has_of v (op a b) (inl o) = ap (λ c. cond c true (has v b)) (has_of v a o)
has_of v (op a b) (inr o) = go (has v a) (has_of v b o)
  where
    go : (c : Bool) → has v b ≡ true → cond c true (has v b) ≡ true
    go true e = refl
    go false e = e

either_true : (a b : Bool) → cond a true b ≡ true → (a ≡ true) ⊎ (b ≡ true)
either_true true b h = inl refl
either_true false b h = inr h

true_either : (a b : Bool) → (a ≡ true) ⊎ (b ≡ true) → cond a true b ≡ true
true_either true b h = refl
true_either false b (inl h) = absurd (cc)
true_either false b (inr h) = h

pub of_has : (v : ℕ) (t : Tree) → has v t ≡ true → Occurs v t
of_has v (var x) h = eqb-true x v h
of_has v (op a b) h = go (either_true (has v a) (has v b) h) (of_has v a) (of_has v b)
  where
    go : (has v a ≡ true) ⊎ (has v b ≡ true) → (has v a ≡ true → Occurs v a) → (has v b ≡ true → Occurs v b) → Occurs v a ⊎ Occurs v b
    go (inl k) f g = inl (f k)
    go (inr k) f g = inr (g k)

bit_le : (a b : Bool) → (a ≡ true → b ≡ true) → cond {A = ℕ} a 1 0 ≤ cond b 1 0
bit_le true true h = omega arith
bit_le true false h = absurd (let k = h refl in cc)
bit_le false true h = omega arith
bit_le false false h = omega arith

count_le : (n : ℕ) (p q : ℕ → Bool) → ((v : ℕ) → p v ≡ true → q v ≡ true) → count_to n p ≤ count_to n q
count_le zero p q h = omega arith
count_le (suc n) p q h = omega (arith, count_le n p q h, bit_le (p n) (q n) (h n))

count_more : (n k : ℕ) (p : ℕ → Bool) → count_to n p ≤ count_to (n + k) p
count_more n zero p = subst (λ m. count_to n p ≤ count_to m p) (let e : n ≡ n + 0 = omega arith in e) (omega arith)
count_more n (suc k) p = subst (λ m. count_to n p ≤ count_to m p) (let e : suc (n + k) ≡ n + suc k = omega arith in e) (omega (arith, count_more n k p))

count_lt : (n x : ℕ) (p q : ℕ → Bool) → ((v : ℕ) → p v ≡ true → q v ≡ true) → x < n → p x ≡ false → q x ≡ true → count_to n p < count_to n q
count_lt zero x p q h l a b = absurd (omega arith)
count_lt (suc n) x p q h l a b = go (equal_or_below x n l) (count_lt n x p q h)
  where
    go : (x ≡ n) ⊎ (x < n) → (x < n → p x ≡ false → q x ≡ true → count_to n p < count_to n q) → count_to (suc n) p < count_to (suc n) q
    go (inl e) i =
        let a' : cond {A = ℕ} (p n) 1 0 ≡ 0 = ap (λ c. cond c 1 0) (ap p (sym e) ∙ a) in
        let b' : cond {A = ℕ} (q n) 1 0 ≡ 1 = ap (λ c. cond c 1 0) (ap q (sym e) ∙ b) in
        omega (arith, count_le n p q h, a', b')
    go (inr k) i = omega (arith, i k a b, bit_le (p n) (q n) (h n))

bound_least : (n : ℕ) (t : Tree) → ((v : ℕ) → Occurs v t → v < n) → bound t ≤ n
bound_least n (var x) h = h x refl
bound_least n (op a b) h = omega (arith, bound_least n a (λ v o. h v (inl o)), bound_least n b (λ v o. h v (inr o)))

false_of : (b : Bool) → (b ≡ true → ⊥) → b ≡ false
false_of true h = absurd (h refl)
false_of false h = refl

module _ (s t : Tree) (d : Difference) (f : Facts s t d) (apart : Occurs d.variable d.value → ⊥) where
  m : ℕ → Tree
  m = single d.variable d.value

  before : ℕ → Bool
  before v = cond (has v s) true (has v t)

  after : ℕ → Bool
  after v = cond (has v (apply (single d.variable d.value) s)) true (has v (apply (single d.variable d.value) t))

  n : ℕ
  n = max (bound s) (bound t)

  occurs_after : (v : ℕ) → Occurs v (apply (single d.variable d.value) s) ⊎ Occurs v (apply (single d.variable d.value) t) → Occurs v s ⊎ Occurs v t
  unfolding put
  occurs_after v o = put_occurs s t d f v o

  kept : (v : ℕ) → after v ≡ true → before v ≡ true
  unfolding before after
  kept v h = go (occurs_after v (go' (either_true (has v (apply (single d.variable d.value) s)) (has v (apply (single d.variable d.value) t)) h)))
    where
      go' : (has v (apply (single d.variable d.value) s) ≡ true) ⊎ (has v (apply (single d.variable d.value) t) ≡ true) → Occurs v (apply (single d.variable d.value) s) ⊎ Occurs v (apply (single d.variable d.value) t)
      go' (inl k) = inl (of_has v _ k)
      go' (inr k) = inr (of_has v _ k)

      go : Occurs v s ⊎ Occurs v t → cond (has v s) true (has v t) ≡ true
      go (inl o) = true_either (has v s) (has v t) (inl (has_of v s o))
      go (inr o) = true_either (has v s) (has v t) (inr (has_of v t o))

  -- the variable itself is gone
  gone_from : (u : Tree) → Occurs d.variable (apply (single d.variable d.value) u) → ⊥
  gone_from u o = let r = instance_occurs (single d.variable d.value) d.variable u o in go r.0 (eqb r.0 d.variable) refl r.2
    where
      go : (z : ℕ) (c : Bool) → eqb z d.variable ≡ c → Occurs d.variable (cond c d.value (var z)) → ⊥
      go z true e o = apart o
      go z false e o = let k = eq-eqb z d.variable o in cc

  gone : after d.variable ≡ false
  unfolding after
  gone = false_of _ (λ h. go (either_true (has d.variable (apply (single d.variable d.value) s)) (has d.variable (apply (single d.variable d.value) t)) h))
    where
      go : (has d.variable (apply (single d.variable d.value) s) ≡ true) ⊎ (has d.variable (apply (single d.variable d.value) t) ≡ true) → ⊥
      go (inl k) = gone_from s (of_has d.variable _ k)
      go (inr k) = gone_from t (of_has d.variable _ k)

  was : before d.variable ≡ true
  unfolding before
  was = go f.there
    where
      go : Occurs d.variable s ⊎ Occurs d.variable t → cond (has d.variable s) true (has d.variable t) ≡ true
      go (inl o) = true_either (has d.variable s) (has d.variable t) (inl (has_of d.variable s o))
      go (inr o) = true_either (has d.variable s) (has d.variable t) (inr (has_of d.variable t o))

  below : (v : ℕ) → Occurs v s ⊎ Occurs v t → v < n
  unfolding n
  below v (inl o) = omega (arith, occurs_bound v s o)
  below v (inr o) = omega (arith, occurs_bound v t o)

  pub round_falls : remaining (apply (single d.variable d.value) s) (apply (single d.variable d.value) t) < remaining s t
  unfolding before after n
  round_falls =
      let a = bound_least n (apply (single d.variable d.value) s) (λ v o. below v (occurs_after v (inl o))) in
      let b = bound_least n (apply (single d.variable d.value) t) (λ v o. below v (occurs_after v (inr o))) in
      let k : ℕ = max (bound (apply (single d.variable d.value) s)) (bound (apply (single d.variable d.value) t)) in
      let e : k + (n - k) ≡ n = omega arith in
      let more = subst (λ x. count_to k after ≤ count_to x after) e (count_more k (n - k) after) in
      omega (arith, more, count_lt n d.variable after before kept (below d.variable f.there) gone was)
