-- The words that go on after some variables, and how many they are.
use Rattle.std.specs.Prelude.{◌≡◌, ℕ, List, All, Contains, length}
use Rattle.std.specs.List.Sorted.{IsStrictlySortedBy}
use Rattle.std.specs.Cmp.Lexicographic.{slice_cmp}
use Rattle.std.specs.Ordering.{nat_cmp}
use Rattle.etp_laws.specs.Occurrences.{Grows}

-- the strictly rising list of exactly the words of this many variables that go on after `used` ones
pub record AreTheWords (leaves used : ℕ) (ws : List (List ℕ)) : Type 0 where
  pub rising : IsStrictlySortedBy (slice_cmp nat_cmp) ws
  pub sound : All (λ w. Grows used w × (length w ≡ leaves)) ws
  pub complete : (w : List ℕ) → Grows used w → length w ≡ leaves → Contains ws w

-- n counts them
pub record CountsWords (leaves used n : ℕ) : Type 0 where
  pub all : List (List ℕ)
  pub are : AreTheWords leaves used all
  pub count : n ≡ length all
