-- What a line of a table says, and where it may stand.
use Rattle.std.specs.Prelude.{◌≡◌, ◌+◌, ◌&&◌, ℕ, List, [], ◌∷◌, codes, map, length, nat_eq, nat_le, nat_lt, if◌then◌else◌, Option, Some, None}
use Rattle.std.specs.List.{concat}
use Rattle.etp_words.specs.Words.{words_of}
use Rattle.etp_words.specs.Numbers.{number_said}
use Rattle.etp_lines.specs.Claims.{SaysNumbers}

-- what a line of a table says
pub data TableLine : Type 0 where
  -- a table of this size begins
  table : ℕ → TableLine
  -- a row has these entries
  row : List ℕ → TableLine

-- `table` and a number
pub record SaysTable (line : List ℕ) (size : ℕ) : Type 0 where
  pub word : List ℕ
  pub words : words_of line ≡ codes "table" ∷ word ∷ []
  pub said : number_said word ≡ Some size

abbrev pub SaysTableLine : List ℕ → TableLine → Type 0
SaysTableLine line (table size) = SaysTable line size
SaysTableLine line (row entries) = SaysNumbers line (codes "row") entries

-- how far a table has come: its size, and how many rows stand
pub record Rows : Type 0 where
  pub size : ℕ
  pub count : ℕ

-- a table of a size from 1 to 255, without rows
abbrev pub opened_rows : ℕ → Option Rows
opened_rows size =
    if nat_le 1 size && nat_le size 255 then Some (record { size = size; count = 0 }) else None

-- a row of as many entries as the size stands where fewer rows do
abbrev pub after_row : Rows → List ℕ → Option Rows
after_row rows entries =
    if nat_lt rows.count rows.size && nat_eq (length entries) rows.size
    then Some (record rows { count = rows.count + 1 }) else None

abbrev pub after_in_table : Rows → TableLine → Option Rows
after_in_table rows (table size) = None
after_in_table rows (row entries) = after_row rows entries

-- the lines are those of a table of this size with these entries, row by row
pub record SaysRows (lines : List TableLine) (size : ℕ) (entries : List ℕ) : Type 0 where
  pub rows : List (List ℕ)
  pub whole : lines ≡ table size ∷ map row rows
  pub entries_are : entries ≡ concat rows
