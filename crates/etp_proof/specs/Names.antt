-- Names of files.
use Rattle.std.specs.Prelude.{◌≡◌, ◌≤◌, ◌⊎◌, ℕ, List, All, length, Some, slice_get}

-- an ASCII digit or letter
abbrev pub IsLetterOrDigit : ℕ → Type 0
IsLetterOrDigit b = ((48 ≤ b) × (b ≤ 57)) ⊎ (((65 ≤ b) × (b ≤ 90)) ⊎ ((97 ≤ b) × (b ≤ 122)))

-- that, or a dot, an underscore or a minus
abbrev pub IsNameByte : ℕ → Type 0
IsNameByte b = IsLetterOrDigit b ⊎ ((b ≡ 46) ⊎ ((b ≡ 95) ⊎ (b ≡ 45)))

-- 1 to 64 such bytes, the first a letter or a digit
pub record IsName (bytes : List ℕ) : Type 0 where
  pub short : length bytes ≤ 64
  pub first : (b : ℕ) × (slice_get bytes 0 ≡ Some b) × IsLetterOrDigit b
  pub all : All IsNameByte bytes
