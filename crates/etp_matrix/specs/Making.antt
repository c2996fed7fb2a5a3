-- The first number that isn't below the modulus. No public clause cites it.
use Rattle.std.specs.Prelude.{◌≡◌, ℕ, ◌+◌, ◌*◌, ◌<◌, ◌≤◌, List, Some, slice_get, slice_index}
use Rattle.etp_matrix.specs.declared.parts.Part.{Part}
use Rattle.etp_matrix.specs.declared.refusal.MatrixRefusal.{MatrixRefusal}
use Rattle.etp_matrix.specs.declared.refusal.MatrixRefusal.TheVariants.{Entry}

pub record IsFirstAbove (m : ℕ) (entries : List ℕ) (n : ℕ) : Type 0 where
  pub value : ℕ
  pub stands : slice_get entries n ≡ Some value
  pub too_large : m ≤ value
  pub earlier : (k : ℕ) → k < n → slice_index entries k < m

pub record IsEntry (part : Part) (entries : List ℕ) (width m : ℕ) (r : MatrixRefusal) : Type 0 where
  pub row : ℕ
  pub column : ℕ
  pub value : ℕ
  pub is : r ≡ Entry part row column value
  pub within : column < width
  pub first : IsFirstAbove m entries (row * width + column)
  pub stands : slice_get entries (row * width + column) ≡ Some value
