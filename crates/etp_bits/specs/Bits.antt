-- What callers see of a matrix of bits.
use Rattle.std.specs.Prelude.{◌≡◌, ℕ, List, [], Bool, false, slice_index_or}

-- the numbers of rows and of columns, and for each row its bits from the first column on
pub record Bits : Type 0 where
  pub rows : ℕ
  pub columns : ℕ
  pub lines : List (List Bool)

-- the bit in a row and a column, both from 0 on; off outside
unfoldable pub bit : Bits → ℕ → ℕ → Bool
bit matrix row column = slice_index_or (slice_index_or matrix.lines row []) column false

-- a matrix of these sizes with all bits off
pub record IsBlank (matrix : Bits) (rows columns : ℕ) : Type 0 where
  pub rows_are : matrix.rows ≡ rows
  pub columns_are : matrix.columns ≡ columns
  pub all_off : (row column : ℕ) → bit matrix row column ≡ false

-- the matrix has these sizes afterwards, with the same bits on
pub record Resizes (old new : Bits) (rows columns : ℕ) : Type 0 where
  pub rows_are : new.rows ≡ rows
  pub columns_are : new.columns ≡ columns
  pub same_bits : (row column : ℕ) → bit new row column ≡ bit old row column

-- both have as many rows, and as many columns
pub record SameSizes (old new : Bits) : Type 0 where
  pub rows_stay : new.rows ≡ old.rows
  pub columns_stay : new.columns ≡ old.columns
