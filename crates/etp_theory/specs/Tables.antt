-- Finite magmas on 0 to n - 1.
use Rattle.std.specs.Prelude.{◌≡◌, ℕ, ◌<◌, ◌+◌, ◌*◌, ◌^◌, Bool, ltb, List, [], ◌∷◌, length, get_or}
use Rattle.etp_theory.specs.Trees.{Equation}
use Rattle.etp_theory.specs.Magmas.{meaning}

-- the carrier of the numbers below `n`
abbrev pub below : ℕ → ℕ → Bool
below n x = ltb x n

-- a list of values, as an assignment to variables 0, 1 and so on
abbrev pub assigned : List ℕ → ℕ → ℕ
assigned xs v = get_or xs v 0

-- a list of `k` values below `n`
pub record IsAssignment (k n : ℕ) (xs : List ℕ) : Type 0 where
  pub count : length xs ≡ k
  pub each : (i : ℕ) → i < k → get_or xs i 0 < n

-- the place of an assignment in lexicographic order, from 0: its values are the digits to base `n`
abbrev pub place_of : ℕ → List ℕ → ℕ
place_of n [] = 0
place_of n (x ∷ xs) = x * n ^ length xs + place_of n xs

-- the law holds at every list of `k` values below `n`
abbrev pub HoldsInLists : ℕ → ℕ → (ℕ → ℕ → ℕ) → Equation → Type 0
HoldsInLists k n times e = (xs : List ℕ) → IsAssignment k n xs
    → meaning times (assigned xs) e.left ≡ meaning times (assigned xs) e.right
