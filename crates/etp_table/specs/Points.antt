-- Which assignment a point stands for.
use Rattle.std.specs.Prelude.{◌≡◌, ℕ, List, All, length, take, drop}
use Rattle.etp_table.specs.declared.point.Point.{Point}

-- the values of the point's variables
abbrev pub values_of : Point → List ℕ
values_of point = take point.variables point.values

-- the point has eight places, of which those past its variables are 0
pub record IsPadded (point : Point) : Type 0 where
  pub width : length point.values ≡ 8
  pub rest : All (λ x. x ≡ 0) (drop point.variables point.values)
