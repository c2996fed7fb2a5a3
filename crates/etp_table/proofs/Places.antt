-- Places of assignments in lexicographic order.
use Rattle.std.proofs.Common.{◌≡◌, ◌+◌, ◌*◌, ◌^◌, ◌<◌, ◌≤◌, ◌⊎◌, inl, inr, ℕ, zero, suc, List, [], ◌∷◌, ◌++◌, length, get_or, refl, sym, ap, ap₂, ◌∙◌, subst, arith, set, length-append, length-set, mul-le-mul_right}
use Rattle.std.proofs.Math.Nat.{pow-zero, pow-suc}
use Rattle.std.proofs.lemmas.Bool.{cases_order}
use Rattle.etp_theory.specs.Tables.{IsAssignment, place_of}
use Rattle.etp_theory.proofs.Tables.{AllBelow, place_lt, all_below}

-- one more digit at the end
pub place_of-snoc : (n : ℕ) (xs : List ℕ) (j : ℕ) → place_of n (xs ++ j ∷ []) ≡ place_of n xs * n + j
place_of-snoc n [] j =
    let e : j * n ^ length {A = ℕ} [] ≡ j * 1 = ap (λ k. j * k) (pow-zero n) in
    omega (arith, e)
place_of-snoc n (x ∷ xs) j =
    let long : length (xs ++ j ∷ []) ≡ suc (length xs) = omega (arith, length-append xs (j ∷ [])) in
    let power : n ^ length (xs ++ j ∷ []) ≡ n ^ length xs * n = ap (λ k. n ^ k) long ∙ pow-suc n (length xs) in
    let e : x * n ^ length (xs ++ j ∷ []) ≡ x * (n ^ length xs * n) = ap (λ k. x * k) power in
    let rest = place_of-snoc n xs j in
    omega (arith, e, rest)

-- another digit at one place
pub place_of-set : (n : ℕ) (xs : List ℕ) (i v m : ℕ) → m + suc i ≡ length xs → place_of n (set xs i v) + get_or xs i 0 * n ^ m ≡ place_of n xs + v * n ^ m
place_of-set n [] i v m h = absurd (omega arith)
place_of-set n (x ∷ xs) zero v m h =
    let long : length xs ≡ m = omega arith in
    let e : v * n ^ length xs ≡ v * n ^ m = ap (λ k. v * n ^ k) long in
    let f : x * n ^ length xs ≡ x * n ^ m = ap (λ k. x * n ^ k) long in
    omega (arith, e, f)
place_of-set n (x ∷ xs) (suc i) v m h =
    let rest = place_of-set n xs i v m (omega arith) in
    let e : x * n ^ length (set xs i v) ≡ x * n ^ length xs = ap (λ k. x * n ^ k) (length-set xs i v) in
    omega (arith, e, rest)

-- zeros stand first
pub place_of-zeros : (n : ℕ) (xs : List ℕ) → ((i : ℕ) → i < length xs → get_or xs i 0 ≡ 0) → place_of n xs ≡ 0
place_of-zeros n [] h = refl
place_of-zeros n (x ∷ xs) h =
    let first : x ≡ 0 = h 0 (omega arith) in
    let e : x * n ^ length xs ≡ 0 * n ^ length xs = ap (λ z. z * n ^ length xs) first in
    let rest = place_of-zeros n xs (λ i l. h (suc i) (omega arith)) in
    omega (arith, e, rest)

apart : (x y p q m : ℕ) → x < y → p < m → x * m + p ≡ y * m + q → ⊥
apart x y p q m h k e =
    let up : (x + 1) * m ≤ y * m = mul-le-mul_right m (omega arith) in
    omega (arith, up, e)

-- two assignments of one place are one
pub place_one : (n : ℕ) (xs ys : List ℕ) → length xs ≡ length ys → AllBelow n xs → AllBelow n ys → place_of n xs ≡ place_of n ys → xs ≡ ys
place_one n [] [] l h k e = refl
place_one n [] (y ∷ ys) l h k e = absurd (omega arith)
place_one n (x ∷ xs) [] l h k e = absurd (omega arith)
place_one n (x ∷ xs) (y ∷ ys) l h k e = one (place_one n xs ys (omega arith) (λ i m. h (suc i) (omega arith)) (λ i m. k (suc i) (omega arith))) (cases_order x y)
  where
    long : length xs ≡ length ys
    long = omega arith

    xs_below : AllBelow n xs
    xs_below i m = h (suc i) (omega arith)

    ys_below : AllBelow n ys
    ys_below i m = k (suc i) (omega arith)

    low : place_of n xs < n ^ length xs
    low = place_lt n xs xs_below

    high : place_of n ys < n ^ length xs
    high = subst (λ z. place_of n ys < n ^ z) (sym long) (place_lt n ys ys_below)

    whole : x * n ^ length xs + place_of n xs ≡ y * n ^ length xs + place_of n ys
    whole = e ∙ ap (λ z. y * n ^ z + place_of n ys) (sym long)

    one : (place_of n xs ≡ place_of n ys → xs ≡ ys) → (x ≡ y) ⊎ ((x < y) ⊎ (y < x)) → x ∷ xs ≡ y ∷ ys
    one rest (inl s) =
        let level : x * n ^ length xs ≡ y * n ^ length xs = ap (λ z. z * n ^ length xs) s in
        ap₂ (λ z zs. z ∷ zs) s (rest (omega (arith, whole, level)))
    one rest (inr (inl s)) = absurd (apart x y (place_of n xs) (place_of n ys) (n ^ length xs) s low whole)
    one rest (inr (inr s)) = absurd (apart y x (place_of n ys) (place_of n xs) (n ^ length xs) s high (sym whole))

pub one_assignment : (k n : ℕ) (xs ys : List ℕ) → IsAssignment k n xs → IsAssignment k n ys → place_of n xs ≡ place_of n ys → xs ≡ ys
one_assignment k n xs ys a b e = place_one n xs ys (a.count ∙ sym b.count) (all_below k n xs a) (all_below k n ys b) e
