-- The linear form of a term's value: a matrix for each variable, and a constant vector.
use Rattle.std.specs.Prelude.{ℕ, ◌+◌, ◌*◌, ◌%◌, cond, eqb, List, [], map, slice_index, slice_index_or}
use Rattle.std.specs.List.{range_with_len}
use Rattle.etp_theory.specs.Trees.{Tree}
use Rattle.etp_forms.specs.Forms.{Affine, coefficient, constant}
use Rattle.etp_matrix.specs.Magmas.{MatrixMagma, vector, sum_below, entry}

-- sums and products modulo m; a matrix is a function of its rows and columns
abbrev pub plus : ℕ → ℕ → List ℕ → List ℕ → List ℕ
plus m size x y = vector size (λ i. (slice_index x i + slice_index y i) % m)

abbrev pub product : ℕ → ℕ → (ℕ → ℕ → ℕ) → List ℕ → List ℕ
product m size at x = vector size (λ row. sum_below size (λ column. at row column * slice_index x column) % m)

abbrev pub zeros : ℕ → List ℕ
zeros size = vector size (λ i. 0)

-- 1 in one place and 0 in all others; the 1 of the numbers modulo 1 is 0
abbrev pub unit : ℕ → ℕ → ℕ → List ℕ
unit m size k = vector size (λ i. cond (eqb i k) (1 % m) 0)

abbrev pub affine_by : (m size : ℕ) → (a b : ℕ → ℕ → ℕ) → List ℕ → Affine (List ℕ)
affine_by m size a b c = record {
  plus = plus m size;
  origin = zeros size;
  on_left = product m size a;
  on_right = product m size b;
  added = c;
}

-- the magma's operation in its parts
abbrev pub affine : MatrixMagma → Affine (List ℕ)
affine g = affine_by g.modulus g.size (entry g.size g.a) (entry g.size g.b) g.c

-- a column of the coefficient matrix of a variable: what the variable adds where it is that unit vector
abbrev pub column_of : MatrixMagma → Tree → ℕ → ℕ → List ℕ
column_of g t v k = coefficient (affine g) t v (unit g.modulus g.size k)

abbrev pub column : List (List ℕ) → ℕ → List ℕ
column matrix k = slice_index_or matrix k []

-- the number in a row and a column of a matrix that is given column by column
abbrev pub by_columns : List (List ℕ) → ℕ → ℕ → ℕ
by_columns matrix row k = slice_index (column matrix k) row

-- the coefficient matrix of a variable, column by column
abbrev pub matrix_of : MatrixMagma → Tree → ℕ → List (List ℕ)
matrix_of g t v = map (column_of g t v) (range_with_len 0 g.size)

abbrev pub constant_of : MatrixMagma → Tree → List ℕ
constant_of g t = constant (affine g) t
