-- The first assignment at which a law fails in a matrix-linear magma: all zero, else one variable a unit
-- vector and all others zero, the least such variable first and then the least unit vector.
use Rattle.std.specs.Prelude.{◌≡◌, ◌≢◌, ℕ, ◌-◌, ◌<◌, ◌⊎◌, IsTrue, List, ◌++◌, length, replicate, Option, None, Some}
use Rattle.etp_theory.specs.Trees.{Equation}
use Rattle.etp_theory.specs.Magmas.{meaning}
use Rattle.etp_forms.specs.Forms.{only}
use Rattle.etp_matrix.specs.Magmas.{MatrixMagma, inside, times}
use Rattle.etp_matrix.specs.Values.{affine, zeros, unit}
use Rattle.etp_matrix.specs.declared.parts.MatrixFailure.{MatrixFailure}

-- all zero, or a variable the unit vector of a column and all others zero
abbrev pub point : MatrixMagma → Option (ℕ × ℕ) → ℕ → List ℕ
point g None v = zeros g.size
point g (Some p) v = only (affine g) p.0 (unit g.modulus g.size p.1) v

abbrev pub IsPoint : MatrixMagma → Option (ℕ × ℕ) → Type 0
IsPoint g None = Unit {0}
IsPoint g (Some p) = p.1 < g.size

abbrev pub IsBefore : Option (ℕ × ℕ) → Option (ℕ × ℕ) → Type 0
IsBefore None None = ⊥
IsBefore None (Some q) = Unit {0}
IsBefore (Some p) None = ⊥
IsBefore (Some p) (Some q) = (p.0 < q.0) ⊎ ((p.0 ≡ q.0) × (p.1 < q.1))

-- four numbers, with 0 past the size
abbrev pub padded : List ℕ → List ℕ
padded x = x ++ replicate (4 - length x) 0

pub record IsFirstFailure (g : MatrixMagma) (e : Equation) (f : MatrixFailure) : Type 0 where
  pub is_point : IsPoint g f.at
  pub assignment : (v : ℕ) → IsTrue (inside g (point g f.at v))
  pub left_is : f.left ≡ padded (meaning (times g) (point g f.at) e.left)
  pub right_is : f.right ≡ padded (meaning (times g) (point g f.at) e.right)
  pub differ : f.left ≢ f.right
  pub before : (p : Option (ℕ × ℕ)) → IsPoint g p → IsBefore p f.at
      → meaning (times g) (point g p) e.left ≡ meaning (times g) (point g p) e.right
