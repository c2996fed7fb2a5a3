-- What a line of a matrix-linear magma says, and where it may stand.
use Rattle.std.specs.Prelude.{◌≡◌, ◌+◌, ◌&&◌, ℕ, Bool, List, [], ◌∷◌, ◌++◌, codes, map, length, nat_eq, nat_le, nat_lt, if◌then◌else◌, Option, Some, None}
use Rattle.std.specs.List.{concat}
use Rattle.etp_words.specs.Words.{words_of}
use Rattle.etp_words.specs.Numbers.{number_said}
use Rattle.etp_matrix.specs.Magmas.{MatrixMagma}
use Rattle.etp_matrix.specs.declared.parts.Part.{Part}
use Rattle.etp_matrix.specs.declared.parts.Part.TheVariants.{A, B, C}
use Rattle.etp_lines.specs.Claims.{SaysNumbers}

-- what a line of a matrix-linear magma says
pub data MatrixLine : Type 0 where
  -- a magma modulo the first number, over vectors of so many numbers as the second says, begins
  matrix : ℕ → ℕ → MatrixLine
  -- a row of A or of B, or the vector c, has these entries
  row : Part → List ℕ → MatrixLine

-- `matrix`, the modulus and the size
pub record SaysMatrix (line : List ℕ) (modulus size : ℕ) : Type 0 where
  pub first : List ℕ
  pub second : List ℕ
  pub words : words_of line ≡ codes "matrix" ∷ first ∷ second ∷ []
  pub modulus_said : number_said first ≡ Some modulus
  pub size_said : number_said second ≡ Some size

-- the first word of a row
abbrev pub part_word : Part → List ℕ
part_word A = codes "a"
part_word B = codes "b"
part_word C = codes "c"

abbrev pub SaysMatrixLine : List ℕ → MatrixLine → Type 0
SaysMatrixLine line (matrix modulus size) = SaysMatrix line modulus size
SaysMatrixLine line (row part entries) = SaysNumbers line (part_word part) entries

-- how far a matrix-linear magma has come: its modulus, its size, and how many rows stand
pub record Rows : Type 0 where
  pub modulus : ℕ
  pub size : ℕ
  pub count : ℕ

-- a size from 1 to 4, without rows
abbrev pub opened_matrix : ℕ → ℕ → Option Rows
opened_matrix modulus size =
    if nat_le 1 size && nat_le size 4
    then Some (record { modulus = modulus; size = size; count = 0 }) else None

-- a row of this part is next where so many rows stand: the rows of A come first, then those of B, then c
abbrev pub awaits : ℕ → ℕ → Part → Bool
awaits size count A = nat_lt count size
awaits size count B = nat_le size count && nat_lt count (size + size)
awaits size count C = nat_eq count (size + size)

-- a row that is next stands with as many entries as the size
abbrev pub after_in_matrix : Rows → MatrixLine → Option Rows
after_in_matrix rows (matrix modulus size) = None
after_in_matrix rows (row part entries) =
    if awaits rows.size rows.count part && nat_eq (length entries) rows.size
    then Some (record rows { count = rows.count + 1 }) else None

-- all rows stand
abbrev pub has_all : Rows → Bool
has_all rows = nat_eq rows.count (rows.size + rows.size + 1)

-- the rows of A, those of B, and c
abbrev pub rows_of : List (List ℕ) → List (List ℕ) → List (List ℕ) → List MatrixLine
rows_of a b c = map (row A) a ++ (map (row B) b ++ map (row C) c)

-- the lines are those of this magma, row by row
pub record SaysRows (lines : List MatrixLine) (g : MatrixMagma) : Type 0 where
  pub a : List (List ℕ)
  pub b : List (List ℕ)
  pub whole : lines ≡ matrix g.modulus g.size ∷ rows_of a b (g.c ∷ [])
  pub a_is : g.a ≡ concat a
  pub b_is : g.b ≡ concat b
