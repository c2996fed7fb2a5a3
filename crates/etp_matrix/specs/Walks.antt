-- What a walk through a term adds to a form of four rows and columns. No public clause cites it.
use Rattle.std.specs.Prelude.{◌≡◌, ◌≢◌, ℕ, ◌<◌, ◌≤◌, ◌&&◌, nat_lt, cond, List, [], length, slice_index, slice_index_or}
use Rattle.etp_theory.specs.Trees.{Tree, bound}
use Rattle.etp_forms.specs.Forms.{Affine, coefficient, constant}
use Rattle.etp_matrix.specs.Magmas.{MatrixMagma, vector, entry}
use Rattle.etp_matrix.specs.Values.{plus, product, unit, affine_by, column, by_columns, column_of, constant_of}
use Rattle.etp_matrix.specs.Failures.{padded}
use Rattle.etp_matrix.specs.declared.matrix_linear.MatrixLinear.{MatrixLinear}

pub record IsVector (m size : ℕ) (x : List ℕ) : Type 0 where
  pub long : length x ≡ size
  pub below : (i : ℕ) → i < size → slice_index x i < m

abbrev pub AreVectors : ℕ → List (List ℕ) → Type 0
AreVectors m matrix = (k : ℕ) → k < 4 → IsVector m 4 (column matrix k)

-- a matrix that is given column by column, times a vector
abbrev pub applied : ℕ → List (List ℕ) → List ℕ → List ℕ
applied m matrix = product m 4 (by_columns matrix)

-- a matrix of the size, with 0 in all other rows and columns
abbrev pub wide : ℕ → List ℕ → ℕ → ℕ → ℕ
wide size matrix row column = cond (nat_lt row size && nat_lt column size) (entry size matrix row column) 0

abbrev pub wide_column : ℕ → List ℕ → ℕ → List ℕ
wide_column size matrix k = vector 4 (λ row. wide size matrix row k)

-- the product of a factor and such a matrix
abbrev pub Extends : MatrixLinear → List (List ℕ) → List ℕ → List (List ℕ) → Type 0
Extends l factor matrix new =
    (k : ℕ) → k < 4 → column new k ≡ applied l.modulus factor (wide_column l.size matrix k)

-- the magma's operation on vectors of four numbers
abbrev pub wide_affine : MatrixLinear → Affine (List ℕ)
wide_affine l = affine_by l.modulus 4 (wide l.size l.a) (wide l.size l.b) l.c

-- a matrix for each variable, and a constant
pub record Form : Type 0 where
  pub matrices : List (List (List ℕ))
  pub constant : List ℕ

abbrev pub form : List (List (List ℕ)) → List ℕ → Form
form matrices constant = record { matrices = matrices; constant = constant }

abbrev pub matrix_at : List (List (List ℕ)) → ℕ → List (List ℕ)
matrix_at matrices v = slice_index_or matrices v []

pub record AreVectorsOf (m : ℕ) (form : Form) : Type 0 where
  pub constant : IsVector m 4 form.constant
  pub columns : (v : ℕ) → v < 8 → AreVectors m (matrix_at form.matrices v)

pub record CanGain (l : MatrixLinear) (t : Tree) (factor : List (List ℕ)) (form : Form) : Type 0 where
  pub variables : bound t ≤ 8
  pub factor_inside : AreVectors l.modulus factor
  pub form_inside : AreVectorsOf l.modulus form

-- the form gains the factor times the term's form
pub record Gains (l : MatrixLinear) (t : Tree) (factor : List (List ℕ)) (old new : Form) : Type 0 where
  pub inside : AreVectorsOf l.modulus new
  pub constant : new.constant ≡ plus l.modulus 4 old.constant (applied l.modulus factor (constant (wide_affine l) t))
  pub columns : (v : ℕ) → v < 8 → (k : ℕ) → k < 4
      → column (matrix_at new.matrices v) k ≡ plus l.modulus 4 (column (matrix_at old.matrices v) k)
      (applied l.modulus factor (coefficient (wide_affine l) t v (unit l.modulus 4 k)))

-- its numbers are those of the term's form
pub record HasNumbers (g : MatrixMagma) (t : Tree) (form : Form) : Type 0 where
  pub inside : AreVectorsOf g.modulus form
  pub constant : form.constant ≡ padded (constant_of g t)
  pub columns : (v : ℕ) → v < 8 → (k : ℕ) → k < g.size
      → column (matrix_at form.matrices v) k ≡ padded (column_of g t v k)

-- the first column below the size in which two matrices differ
pub record IsFirstColumn (size : ℕ) (p q : List (List ℕ)) (k : ℕ) : Type 0 where
  pub within : k < size
  pub differ : column p k ≢ column q k
  pub before : (j : ℕ) → j < k → column p j ≡ column q j

abbrev pub AreSame : ℕ → List (List ℕ) → List (List ℕ) → Type 0
AreSame size p q = (k : ℕ) → k < size → column p k ≡ column q k

-- the first column of the first variable
pub record IsFirstDifference (size : ℕ) (p q : List (List (List ℕ))) (at : ℕ × ℕ) : Type 0 where
  pub within : at.0 < 8
  pub here : IsFirstColumn size (matrix_at p at.0) (matrix_at q at.0) at.1
  pub before : (v : ℕ) → v < at.0 → AreSame size (matrix_at p v) (matrix_at q v)

abbrev pub AreAllSame : ℕ → List (List (List ℕ)) → List (List (List ℕ)) → Type 0
AreAllSame size p q = (v : ℕ) → v < 8 → AreSame size (matrix_at p v) (matrix_at q v)
