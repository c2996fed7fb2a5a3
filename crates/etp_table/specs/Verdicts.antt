-- The first failing assignment of a law in a table.
use Rattle.std.specs.Prelude.{◌≡◌, ◌≢◌, ℕ, ◌<◌, ◌≤◌, ◌^◌, List, min, max}
use Rattle.etp_theory.specs.Trees.{Equation, bound}
use Rattle.etp_theory.specs.Magmas.{meaning}
use Rattle.etp_theory.specs.Magmas as Magmas
use Rattle.etp_theory.specs.Tables.{IsAssignment, assigned, place_of, below}
use Rattle.etp_table.specs.Tables.{Table, times}
use Rattle.etp_table.specs.Points.{values_of, IsPadded}
use Rattle.etp_table.specs.declared.point.Point.{Point}
use Rattle.etp_table.specs.declared.point.Verdict.{Verdict}
use Rattle.etp_table.specs.declared.point.Verdict.TheVariants.{Holds, Fails}

-- one above the greatest variable of the law: a listed law has exactly the variables below it
abbrev pub variables : Equation → ℕ
variables e = max (bound e.left) (bound e.right)

-- how many assignments the law has
abbrev pub assignments : Table → Equation → ℕ
assignments t e = t.size ^ variables e

-- how many assignments are looked at
abbrev pub limit : ℕ
limit = 16777216

-- both sides have one value at the assignment
abbrev pub AgreesAt : Table → Equation → List ℕ → Type 0
AgreesAt t e xs = meaning (times t) (assigned xs) e.left ≡ meaning (times t) (assigned xs) e.right

-- both sides agree at the first n assignments
abbrev pub AgreesBefore : Table → Equation → ℕ → Type 0
AgreesBefore t e n = (xs : List ℕ) → IsAssignment (variables e) t.size xs → place_of t.size xs < n → AgreesAt t e xs

-- the first failing assignment, among those that are looked at, with the values of both sides
pub record IsFirstFailure (t : Table) (e : Equation) (point : Point) (left right : ℕ) : Type 0 where
  pub variables_are : point.variables ≡ variables e
  pub padded : IsPadded point
  pub assignment : IsAssignment (variables e) t.size (values_of point)
  pub among : place_of t.size (values_of point) < limit
  pub before : AgreesBefore t e (place_of t.size (values_of point))
  pub left_is : left ≡ meaning (times t) (assigned (values_of point)) e.left
  pub right_is : right ≡ meaning (times t) (assigned (values_of point)) e.right
  pub differ : left ≢ right

-- none of the assignments that are looked at fails, or the first one that does
abbrev pub IsVerdict : Table → Equation → Verdict → Type 0
IsVerdict t e (Holds looked_at) = (looked_at ≡ min limit (assignments t e)) × AgreesBefore t e limit
IsVerdict t e (Fails point left right) = IsFirstFailure t e point left right

-- both sides have equal values under every assignment of values of the table
abbrev pub HoldsIn : Table → Equation → Type 0
HoldsIn t e = Magmas.Holds (below t.size) (times t) e.left e.right

-- a law of which all assignments were looked at holds in the table, one that fails at one doesn't
abbrev pub Tells : Table → Equation → Verdict → Type 0
Tells t e (Holds looked_at) = assignments t e ≤ limit → HoldsIn t e
Tells t e (Fails point left right) = HoldsIn t e → ⊥
