-- Digits to a base.
use Rattle.std.specs.Prelude.{ℕ, ◌<◌, List, length, slice_index}

-- each digit is below the base
abbrev pub AreDigits : ℕ → List ℕ → Type 0
AreDigits n digits = (i : ℕ) → i < length digits → slice_index digits i < n
