-- A map of 0 to n - 1 into itself with a left inverse takes every value.
use Rattle.std.proofs.Common.{◌≡◌, ℕ, zero, suc, ◌<◌, ◌⊎◌, inl, inr, Bool, true, false, cond, eqb, refl, sym, ap, ◌∙◌, arith, eq-eqb}
use Rattle.etp_theory.proofs.Comparing.{equal_or_below}
use Rattle.etp_theory.proofs.Sameness.{swap, swap_injective}

swap_first : (a b : ℕ) → swap a b a ≡ b
swap_first a b = ap (λ c. cond c b (cond (eqb a b) a a)) (eq-eqb a a refl)

swap_below : (n a b x : ℕ) → a < n → b < n → x < n → swap a b x < n
swap_below n a b x i j k = go (eqb x a) (eqb x b)
  where
    go : (c d : Bool) → cond c b (cond d a x) < n
    go true d = j
    go false true = i
    go false false = k

-- the map with its last value and n exchanged
abbrev pub turned : ℕ → (ℕ → ℕ) → ℕ → ℕ
turned n f x = swap (f n) n (f x)

module _ (n : ℕ) (f : ℕ → ℕ) (into : (x : ℕ) → x < suc n → f x < suc n) (one : (x y : ℕ) → x < suc n → y < suc n → f x ≡ f y → x ≡ y) where
  turned_into : (x : ℕ) → x < n → turned n f x < n
  turned_into x l = go (equal_or_below (turned n f x) n (swap_below (suc n) (f n) n (f x) (into n (omega arith)) (omega arith) (into x (omega arith))))
    where
      go : (turned n f x ≡ n) ⊎ (turned n f x < n) → turned n f x < n
      go (inl e) =
          let q : x ≡ n = one x n (omega arith) (omega arith) (swap_injective (f n) n (f x) (f n) (e ∙ sym (swap_first (f n) n))) in
          absurd (omega (arith, q, l))
      go (inr k) = k

  turned_one : (x y : ℕ) → x < n → y < n → turned n f x ≡ turned n f y → x ≡ y
  turned_one x y i j e = one x y (omega arith) (omega arith) (swap_injective (f n) n (f x) (f y) e)

  one_more : ((z : ℕ) → z < n → (x : ℕ) × (x < n) × (turned n f x ≡ z)) → (y : ℕ) → y < suc n → (x : ℕ) × (x < suc n) × (f x ≡ y)
  one_more rest y l = go (equal_or_below (swap (f n) n y) n (swap_below (suc n) (f n) n y (into n (omega arith)) (omega arith) l))
    where
      go : (swap (f n) n y ≡ n) ⊎ (swap (f n) n y < n) → (x : ℕ) × (x < suc n) × (f x ≡ y)
      go (inl e) = (n, omega arith, swap_injective (f n) n (f n) y (swap_first (f n) n ∙ sym e))
      go (inr k) = let r = rest (swap (f n) n y) k in (r.0, omega (arith, r.1), swap_injective (f n) n (f r.0) y r.2)

-- a one to one map of 0 to n - 1 into itself takes every value
pub onto_one : (n : ℕ) (f : ℕ → ℕ) → ((x : ℕ) → x < n → f x < n) → ((x y : ℕ) → x < n → y < n → f x ≡ f y → x ≡ y) → (y : ℕ) → y < n → (x : ℕ) × (x < n) × (f x ≡ y)
onto_one zero f into one y l = absurd (omega arith)
onto_one (suc n) f into one y l = one_more n f into one (onto_one n (turned n f) (turned_into n f into one) (turned_one n f into one)) y l

pub onto : (n : ℕ) (f g : ℕ → ℕ) → ((x : ℕ) → x < n → f x < n) → ((x : ℕ) → x < n → g (f x) ≡ x) → (y : ℕ) → y < n → (x : ℕ) × (x < n) × (f x ≡ y)
onto n f g into back = onto_one n f into (λ x y i j e. sym (back x i) ∙ ap g e ∙ back y j)
