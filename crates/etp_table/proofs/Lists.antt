-- Places of lists that grow at their end or are written to.
use Rattle.std.proofs.Common.{◌≡◌, ◌<◌, ◌≤◌, ℕ, zero, suc, List, [], ◌∷◌, ◌++◌, length, get_or, take, slice_get, Some, refl, ap₂, arith}

pub slice_get-front : {X : Type 0} (xs ys : List X) (i : ℕ) (x : X) → slice_get xs i ≡ Some x → slice_get (xs ++ ys) i ≡ Some x
slice_get-front [] ys i x h = absurd (cc)
slice_get-front (y ∷ xs) ys zero x h = h
slice_get-front (y ∷ xs) ys (suc i) x h = slice_get-front xs ys i x h

pub slice_get-last : {X : Type 0} (xs : List X) (x : X) → slice_get (xs ++ x ∷ []) (length xs) ≡ Some x
slice_get-last [] x = refl
slice_get-last (y ∷ xs) x = slice_get-last xs x

-- lists with the same first n elements
pub take_same : (n : ℕ) (xs ys : List ℕ) → n ≤ length xs → n ≤ length ys → ((i : ℕ) → i < n → get_or ys i 0 ≡ get_or xs i 0) → take n ys ≡ take n xs
take_same zero xs ys k l h = refl
take_same (suc n) [] ys k l h = absurd (omega arith)
take_same (suc n) (x ∷ xs) [] k l h = absurd (omega arith)
take_same (suc n) (x ∷ xs) (y ∷ ys) k l h =
    ap₂ (λ z zs. z ∷ zs) (h 0 (omega arith)) (take_same n xs ys (omega arith) (omega arith) (λ i m. h (suc i) (omega arith)))
