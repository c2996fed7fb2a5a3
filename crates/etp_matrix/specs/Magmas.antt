-- Matrix-linear magmas: x ◇ y = A x + B y + c, where x, y and c are vectors of numbers modulo m.
use Rattle.std.specs.Prelude.{◌≡◌, ℕ, zero, suc, ◌+◌, ◌*◌, ◌%◌, ◌<◌, ◌≤◌, Bool, ◌&&◌, nat_eq, nat_lt, List, All, Some, map, length, slice_get, slice_index}
use Rattle.std.specs.List.{range_with_len, list_all}
use Rattle.etp_matrix.specs.declared.parts.Part.{Part}
use Rattle.etp_matrix.specs.declared.parts.Part.TheVariants.{A, B, C}

-- the matrices A and B are given row by row
pub record MatrixMagma : Type 0 where
  pub modulus : ℕ
  pub size : ℕ
  pub a : List ℕ
  pub b : List ℕ
  pub c : List ℕ

-- the carrier: lists of `size` numbers below the modulus
abbrev pub inside : MatrixMagma → List ℕ → Bool
inside g x = nat_eq (length x) g.size && list_all (λ k. nat_lt k g.modulus) x

-- the list of what a function gives at 0 to size - 1
abbrev pub vector : ℕ → (ℕ → ℕ) → List ℕ
vector size at = map at (range_with_len 0 size)

abbrev pub sum_below : ℕ → (ℕ → ℕ) → ℕ
sum_below zero at = 0
sum_below (suc n) at = sum_below n at + at n

-- the number of a matrix in a row and a column
abbrev pub entry : ℕ → List ℕ → ℕ → ℕ → ℕ
entry size matrix row column = slice_index matrix (row * size + column)

-- a row of a matrix times a vector
abbrev pub row_times : ℕ → List ℕ → List ℕ → ℕ → ℕ
row_times size matrix x row = sum_below size (λ column. entry size matrix row column * slice_index x column)

-- the operation
abbrev pub times : MatrixMagma → List ℕ → List ℕ → List ℕ
times g x y =
    vector g.size (λ row. (row_times g.size g.a x row + row_times g.size g.b y row + slice_index g.c row) % g.modulus)

-- 1 to 1000000
pub record IsModulus (m : ℕ) : Type 0 where
  pub at_least : 1 ≤ m
  pub at_most : m ≤ 1000000

-- a size from 1 to 4, and lists of as many numbers as the matrices and the vector have
pub record IsShape (size : ℕ) (a b c : List ℕ) : Type 0 where
  pub at_least : 1 ≤ size
  pub at_most : size ≤ 4
  pub a_length : length a ≡ size * size
  pub b_length : length b ≡ size * size
  pub c_length : length c ≡ size

abbrev pub AreBelow : ℕ → List ℕ → Type 0
AreBelow m entries = All (λ k. k < m) entries

pub record IsMatrixMagma (g : MatrixMagma) : Type 0 where
  pub modulus : IsModulus g.modulus
  pub shape : IsShape g.size g.a g.b g.c
  pub a_below : AreBelow g.modulus g.a
  pub b_below : AreBelow g.modulus g.b
  pub c_below : AreBelow g.modulus g.c

abbrev pub numbers_of : MatrixMagma → Part → List ℕ
numbers_of g A = g.a
numbers_of g B = g.b
numbers_of g C = g.c

-- how many numbers a row has; c is one column
abbrev pub width_of : MatrixMagma → Part → ℕ
width_of g A = g.size
width_of g B = g.size
width_of g C = 1

-- the parts before this one have no number out of range
abbrev pub EarlierAreBelow : MatrixMagma → Part → Type 0
EarlierAreBelow g A = Unit {0}
EarlierAreBelow g B = AreBelow g.modulus g.a
EarlierAreBelow g C = AreBelow g.modulus g.a × AreBelow g.modulus g.b

-- the first number that isn't below the modulus: of a, else of b, else of c, row by row
pub record IsFirstOutOfRange (g : MatrixMagma) (part : Part) (row column value : ℕ) : Type 0 where
  pub modulus : IsModulus g.modulus
  pub earlier_parts : EarlierAreBelow g part
  pub column_within : column < width_of g part
  pub stands : slice_get (numbers_of g part) (row * width_of g part + column) ≡ Some value
  pub too_large : g.modulus ≤ value
  pub earlier : (n : ℕ) → n < row * width_of g part + column → slice_index (numbers_of g part) n < g.modulus
