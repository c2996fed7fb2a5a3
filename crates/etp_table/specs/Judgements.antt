-- Laws that are to hold in a table and laws that are to fail there, by their numbers.
use Rattle.std.specs.Prelude.{◌≡◌, ◌⊎◌, ℕ, ◌<◌, ◌≤◌, List, All, Some, slice_get, take, min}
use Rattle.etp_theory.specs.Trees.{Equation}
use Rattle.etp_theory.specs.LawNumbers.{law_numbered}
use Rattle.etp_theory.specs.Tables.{HoldsInLists}
use Rattle.etp_table.specs.Tables.{Table, times}
use Rattle.etp_table.specs.Verdicts.{variables, assignments, limit, AgreesBefore, IsFirstFailure}
use Rattle.etp_table.specs.declared.point.Point.{Point}
use Rattle.etp_table.specs.declared.refusal.TableRefusal.{TableRefusal}
use Rattle.etp_table.specs.declared.refusal.TableRefusal.TheVariants.{TooManyAssignments, HoldsFails, FailsHolds}

-- law n has few enough assignments, and holds at all of them
pub record LawHolds (laws : List Equation) (t : Table) (n : ℕ) : Type 0 where
  pub law : Equation
  pub listed : law_numbered laws n ≡ Some law
  pub few : assignments t law ≤ limit
  pub holds : HoldsInLists (variables law) t.size (times t) law

-- law n fails at one of the assignments that are looked at
pub record LawFails (laws : List Equation) (t : Table) (n : ℕ) : Type 0 where
  pub law : Equation
  pub listed : law_numbered laws n ≡ Some law
  pub point : Point
  pub left : ℕ
  pub right : ℕ
  pub first : IsFirstFailure t law point left right

-- each law of `holds` holds, and each law of `fails` fails
pub record IsJudged (laws : List Equation) (t : Table) (holds fails : List ℕ) : Type 0 where
  pub holding : All (LawHolds laws t) holds
  pub failing : All (LawFails laws t) fails

-- law n of `holds` has too many assignments, else fails at one
abbrev pub IsHoldsRefused : Table → ℕ → Equation → TableRefusal → Type 0
IsHoldsRefused t n e (TooManyAssignments law size k) =
    (law ≡ n) × (size ≡ t.size) × (k ≡ variables e) × (limit < assignments t e)
IsHoldsRefused t n e (HoldsFails law point left right) =
    (law ≡ n) × (assignments t e ≤ limit) × IsFirstFailure t e point left right
IsHoldsRefused t n e _ = ⊥

-- law n of `fails` fails at none of the assignments that are looked at
abbrev pub IsFailsRefused : Table → ℕ → Equation → TableRefusal → Type 0
IsFailsRefused t n e (FailsHolds law looked_at) =
    (law ≡ n) × (looked_at ≡ min limit (assignments t e)) × AgreesBefore t e limit
IsFailsRefused t n e _ = ⊥

-- the first of the numbers whose law isn't as it is to be; `Refused` is said of its number and law
pub record IsFirstRefused (laws : List Equation) (IsRight : ℕ → Type 0)
    (Refused : ℕ → Equation → Type 0) (numbers : List ℕ) : Type 0 where
  pub place : ℕ
  pub number : ℕ
  pub law : Equation
  pub stands : slice_get numbers place ≡ Some number
  pub listed : law_numbered laws number ≡ Some law
  pub before : All IsRight (take place numbers)
  pub refused : Refused number law

-- the first offence: of a law of `holds`, else of a law of `fails`
abbrev pub IsFirstOffence : List Equation → Table → List ℕ → List ℕ → TableRefusal → Type 0
IsFirstOffence laws t holds fails r =
    IsFirstRefused laws (LawHolds laws t) (λ n e. IsHoldsRefused t n e r) holds
    ⊎ (All (LawHolds laws t) holds
    × IsFirstRefused laws (LawFails laws t) (λ n e. IsFailsRefused t n e r) fails)
