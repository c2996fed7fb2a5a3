-- How rows of bits lie in a list of words of 64 bits: column c of a row that begins at place
-- `start` is bit c % 64 of the word at place start + c / 64.
use Rattle.std.specs.Prelude.{◌≡◌, ℕ, ◌+◌, ◌*◌, ◌/◌, ◌%◌, ◌^◌, ◌<◌, ◌≤◌, ◌||◌, List, Bool, true, false, nat_eq, slice_index, map, bit_or, length}
use Rattle.std.specs.List.{range_with_len}
use Rattle.std.specs.Int.{bit_at}
use Rattle.etp_bits.specs.Bits.{Bits}

-- whether the column is on in the row that begins there
unfoldable pub lit : List ℕ → ℕ → ℕ → Bool
lit words start column = nat_eq (bit_at (slice_index words (start + column / 64)) (column % 64)) 1

-- the matrix of these sizes whose bits the words hold, with `stride` words a row
abbrev pub bits_of : ℕ → ℕ → ℕ → List ℕ → Bits
bits_of rows columns stride words = record {
  rows = rows;
  columns = columns;
  lines = map (λ row. map (lit words (row * stride)) (range_with_len 0 columns)) (range_with_len 0 rows);
}

-- as many words as the rows need, and no bit on past the last column
pub record IsLaidOut (rows columns stride count : ℕ) (words : List ℕ) : Type 0 where
  pub size : count ≡ rows * stride
  pub wide : columns ≤ 64 * stride
  pub narrow : stride ≤ 2 ^ 26
  pub off_past : (row column : ℕ) → row < rows → columns ≤ column → column < 64 * stride
      → lit words (row * stride) column ≡ false

-- the first words with the others joined to `count` of them, from place `into` on
pub record JoinsWords (old new other : List ℕ) (into from count : ℕ) : Type 0 where
  pub joined : (place : ℕ) → place < count
      → slice_index new (into + place) ≡ bit_or (slice_index old (into + place)) (slice_index other (from + place))
  pub before : (place : ℕ) → place < into → slice_index new place ≡ slice_index old place
  pub after : (place : ℕ) → into + count ≤ place → slice_index new place ≡ slice_index old place

-- the bits of the rows of the first words with further bits on
pub record JoinsBits (old new : List ℕ) (stride : ℕ) (further : ℕ → ℕ → Bool) : Type 0 where
  pub same_size : length new ≡ length old
  pub bits : (row column : ℕ) → column < 64 * stride
      → lit new (row * stride) column ≡ (lit old (row * stride) column || further row column)

-- some column of `count` words is on in the first and off in the other
pub record LitInOne (words other : List ℕ) (at from count : ℕ) : Type 0 where
  pub column : ℕ
  pub within : column < 64 * count
  pub here : lit words at column ≡ true
  pub not_there : lit other from column ≡ false

-- each row has its old words, and then words that are 0
pub record Spreads (old new : List ℕ) (rows stride wider : ℕ) : Type 0 where
  pub kept : (row place : ℕ) → row < rows → place < stride
      → slice_index new (row * wider + place) ≡ slice_index old (row * stride + place)
  pub blank : (row place : ℕ) → row < rows → stride ≤ place → place < wider
      → slice_index new (row * wider + place) ≡ 0

-- the old rows are spread out, and the words of further rows are 0
pub record Regrows (old new : List ℕ) (old_rows stride rows wider : ℕ) : Type 0 where
  pub old_words : Spreads old new old_rows stride wider
  pub new_words : (place : ℕ) → old_rows * wider ≤ place → slice_index new place ≡ 0
