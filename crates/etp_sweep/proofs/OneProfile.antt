-- A table has one profile.
use Rattle.std.proofs.Common.{◌≡◌, ℕ, zero, suc, ◌+◌, ◌<◌, List, [], ◌∷◌, Contains, ◌⊎◌, inl, inr, refl, sym, ap, subst, ◌∙◌, arith}
use Rattle.std.specs.Prelude.{slice_index}
use Rattle.std.specs.List.Sorted.{IsStrictlyIncreasing}
use Rattle.etp_theory.specs.Trees.{Equation}
use Rattle.etp_table.specs.Tables.{Table}
use Rattle.etp_sweep.specs.Profiles.{IsProfile}

first_or_later : (x : ℕ) (xs : List ℕ) (m : ℕ) → Contains (x ∷ xs) m → (m ≡ x) ⊎ Contains xs m
first_or_later x xs m (zero, h, e) = inl (sym e)
first_or_later x xs m (suc i, h, e) = inr (i, omega arith, e)

first : (x : ℕ) (xs : List ℕ) → Contains (x ∷ xs) x
first x xs = (0, omega arith, refl)

later : (x : ℕ) (xs : List ℕ) (m : ℕ) → Contains xs m → Contains (x ∷ xs) m
later x xs m (i, h, e) = (suc i, omega arith, e)

empty : (m : ℕ) → Contains [] m → ⊥
empty m (i, h, e) = absurd (omega arith)

rising-tail : (x : ℕ) (xs : List ℕ) → IsStrictlyIncreasing (x ∷ xs) → IsStrictlyIncreasing xs
rising-tail x xs h k l =
    let up : suc k + 1 ≡ suc (suc k) = omega arith in
    let on : k + 1 ≡ suc k = omega arith in
    let two : slice_index xs k < slice_index (x ∷ xs) (suc k + 1) = h (suc k) (omega (arith, l)) in
    let step : slice_index xs k < slice_index xs (suc k) = subst (λ (n : ℕ). slice_index xs k < slice_index (x ∷ xs) n) up two in
    subst (λ (n : ℕ). slice_index xs k < slice_index xs n) (sym on) step

-- the first is below the others
below : (xs : List ℕ) (x : ℕ) → IsStrictlyIncreasing (x ∷ xs) → (m : ℕ) → Contains xs m → x < m
below [] x h m c = absurd (empty m c)
below (y ∷ ys) x h m c =
    let less : x < y = h 0 (omega arith) in
    elim (first_or_later y ys m c) [
      | inl e ↦ omega (arith, less, e)
      | inr d ↦ let more = below ys y (rising-tail x (y ∷ ys) h) m d in omega (arith, less, more)
    ]

-- the first of two rising lists with the same numbers
same_first : (x y : ℕ) (xs ys : List ℕ) → IsStrictlyIncreasing (x ∷ xs) → IsStrictlyIncreasing (y ∷ ys) → Contains (y ∷ ys) x → Contains (x ∷ xs) y → x ≡ y
same_first x y xs ys h k c d = elim (first_or_later y ys x c) [
  | inl e ↦ e
  | inr l ↦ elim (first_or_later x xs y d) [
    | inl e ↦ sym e
    | inr m ↦ absurd (let a = below ys y k x l in let b = below xs x h y m in omega (arith, a, b))
  ]
]

-- and what is behind it
behind : (x y : ℕ) (xs ys : List ℕ) → x ≡ y → IsStrictlyIncreasing (x ∷ xs) → ((m : ℕ) → Contains (x ∷ xs) m → Contains (y ∷ ys) m) → (m : ℕ) → Contains xs m → Contains ys m
behind x y xs ys e h to m c = elim (first_or_later y ys m (to m (later x xs m c))) [
  | inl f ↦ absurd (let l = below xs x h m c in omega (arith, l, e, f))
  | inr d ↦ d
]

same_numbers : (xs ys : List ℕ) → IsStrictlyIncreasing xs → IsStrictlyIncreasing ys → ((m : ℕ) → Contains xs m → Contains ys m) → ((m : ℕ) → Contains ys m → Contains xs m) → xs ≡ ys
same_numbers [] [] h k to from = refl
same_numbers [] (y ∷ ys) h k to from = absurd (empty y (from y (first y ys)))
same_numbers (x ∷ xs) [] h k to from = absurd (empty x (to x (first x xs)))
same_numbers (x ∷ xs) (y ∷ ys) h k to from =
    let e : x ≡ y = same_first x y xs ys h k (to x (first x xs)) (from y (first y ys)) in
    let rest : xs ≡ ys = same_numbers xs ys (rising-tail x xs h) (rising-tail y ys k) (behind x y xs ys e h to) (behind y x ys xs (sym e) k from) in
    ap (λ (n : ℕ). n ∷ xs) e ∙ ap (λ (l : List ℕ). y ∷ l) rest

-- a table has one profile
pub one_profile : (laws : List Equation) (t : Table) (xs ys : List ℕ) → IsProfile laws t xs → IsProfile laws t ys → xs ≡ ys
one_profile laws t xs ys a b = same_numbers xs ys a.rising b.rising (λ m c. (b.exact m).1 ((a.exact m).0 c)) (λ m c. (a.exact m).1 ((b.exact m).0 c))
