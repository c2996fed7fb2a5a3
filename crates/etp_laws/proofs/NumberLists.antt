-- The number at a place of a list, and what holds of all numbers or of those before a place.
use Rattle.std.proofs.Common.{◌≡◌, ℕ, ◌<◌, ◌≤◌, ◌∙◌, subst, arith, All, Contains, List, Some, length, take, slice_get}
use Rattle.std.proofs.lemmas.List.{get_or-take, length-take, take_all}
use Rattle.std.proofs.lemmas.List.Elements.{All-get_or, Contains-get_or}
use Rattle.std.proofs.lemmas.Option.{slice_get_within, get_or_from_slice_get}

-- the number at a place is in the list
pub contains_at : (xs : List ℕ) (i n : ℕ) → slice_get xs i ≡ Some n → Contains xs n
contains_at xs i n h = subst (Contains xs) (get_or_from_slice_get xs i n n h) (Contains-get_or xs i n (slice_get_within xs i n h))

-- what holds of all numbers holds of the one at a place
pub at_place : (P : ℕ → Type 0) (xs : List ℕ) (place n : ℕ) → slice_get xs place ≡ Some n → All P xs → P n
at_place P xs place n h all =
    subst P (get_or_from_slice_get xs place n n h) (All-get_or P xs place n (slice_get_within xs place n h) all)

-- and what holds of the numbers up to a place holds of one before it
pub before_place : (P : ℕ → Type 0) (xs : List ℕ) (i j n : ℕ) → i < j → slice_get xs i ≡ Some n → All P (take j xs) → P n
before_place P xs i j n l h all =
    let within : i < length (take j xs) = omega (arith, length-take j xs, slice_get_within xs i n h) in
    subst P (get_or-take j xs i n l ∙ get_or_from_slice_get xs i n n h) (All-get_or P (take j xs) i n within all)

-- all of a list, in a loop that has gone through it
pub all_taken : (P : ℕ → Type 0) (xs : List ℕ) (i : ℕ) → length xs ≤ i → All P (take i xs) → All P xs
all_taken P xs i h all = subst (All P) (take_all i xs h) all
