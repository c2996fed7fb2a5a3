-- How many of the program's variables have no value.
use Rattle.std.proofs.Common.{◌≡◌, ℕ, zero, suc, ◌⊎◌, inl, inr, ◌+◌, ◌<◌, ◌≤◌, Option, Some, None, refl, sym, ap, ◌∙◌, subst, arith}
use Rattle.etp_theory.specs.Trees.{Tree}
use Rattle.etp_theory.specs.Substitutions.{Partial}
use Rattle.etp_theory.proofs.Comparing.{equal_or_below}

one_if_none : Option Tree → ℕ
one_if_none None = 1
one_if_none (Some t) = 0

count_below : ℕ → (ℕ → Option Tree) → ℕ
count_below zero f = 0
count_below (suc n) f = count_below n f + one_if_none (f n)

pub unbound : Partial → ℕ
unbound values = count_below 256 values.value

less_or_same : (f g : Option Tree) → (f ≡ None → g ≡ None) → one_if_none f ≤ one_if_none g
unfolding one_if_none
less_or_same None g h = subst (λ (o : Option Tree). 1 ≤ one_if_none o) (sym (h refl)) (omega arith)
less_or_same (Some t) g h = omega arith

count_le : (n : ℕ) (f g : ℕ → Option Tree) → ((v : ℕ) → f v ≡ None → g v ≡ None) → count_below n f ≤ count_below n g
unfolding count_below
count_le zero f g h = omega arith
count_le (suc n) f g h = omega (arith, count_le n f g h, less_or_same (f n) (g n) (h n))

none_at : (f : Option Tree) → f ≡ None → one_if_none f ≡ 1
unfolding one_if_none
none_at f h = ap one_if_none h

some_at : (f : Option Tree) (t : Tree) → f ≡ Some t → one_if_none f ≡ 0
unfolding one_if_none
some_at f t h = ap one_if_none h

count_lt : (n x : ℕ) (t : Tree) (f g : ℕ → Option Tree) → ((v : ℕ) → f v ≡ None → g v ≡ None) → x < n → f x ≡ Some t → g x ≡ None → count_below n f < count_below n g
unfolding count_below
count_lt zero x t f g h l a b = absurd (omega arith)
count_lt (suc n) x t f g h l a b = go (equal_or_below x n l) (count_lt n x t f g h)
  where
    go : (x ≡ n) ⊎ (x < n) → (x < n → f x ≡ Some t → g x ≡ None → count_below n f < count_below n g) → count_below n f + one_if_none (f n) < count_below n g + one_if_none (g n)
    go (inl e) k = omega (arith, count_le n f g h, some_at (f n) t (ap f (sym e) ∙ a), none_at (g n) (ap g (sym e) ∙ b))
    go (inr e) k = omega (arith, k e a b, less_or_same (f n) (g n) (h n))

pub fewer_unbound : (earlier later : Partial) (x : ℕ) (t : Tree) → ((v : ℕ) → later.value v ≡ None → earlier.value v ≡ None) → x < 256 → later.value x ≡ Some t → earlier.value x ≡ None → unbound later < unbound earlier
unfolding unbound
fewer_unbound earlier later x t h l a b = count_lt 256 x t later.value earlier.value h l a b
