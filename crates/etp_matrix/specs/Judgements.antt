-- Laws that are to hold in a matrix-linear magma and laws that are to fail there, by their numbers.
use Rattle.std.specs.Prelude.{◌≡◌, ℕ, List, All, Some, slice_get, take}
use Rattle.etp_theory.specs.Trees.{Equation}
use Rattle.etp_theory.specs.Magmas.{Holds}
use Rattle.etp_theory.specs.LawNumbers.{law_numbered}
use Rattle.etp_matrix.specs.Magmas.{MatrixMagma, inside, times, IsModulus, IsFirstOutOfRange}
use Rattle.etp_matrix.specs.Failures.{IsFirstFailure}
use Rattle.etp_matrix.specs.declared.parts.MatrixFailure.{MatrixFailure}
use Rattle.etp_matrix.specs.declared.refusal.MatrixRefusal.{MatrixRefusal}
use Rattle.etp_matrix.specs.declared.refusal.MatrixRefusal.TheVariants.{Modulus, Entry, HoldsFails, FailsHolds}

pub record LawHolds (laws : List Equation) (g : MatrixMagma) (n : ℕ) : Type 0 where
  pub law : Equation
  pub listed : law_numbered laws n ≡ Some law
  pub holds : Holds (inside g) (times g) law.left law.right

pub record LawFails (laws : List Equation) (g : MatrixMagma) (n : ℕ) : Type 0 where
  pub law : Equation
  pub listed : law_numbered laws n ≡ Some law
  pub fails : Holds (inside g) (times g) law.left law.right → ⊥

-- each law of `holds` holds, and each law of `fails` fails
pub record IsJudged (laws : List Equation) (g : MatrixMagma) (holds fails : List ℕ) : Type 0 where
  pub holding : All (LawHolds laws g) holds
  pub failing : All (LawFails laws g) fails

-- a modulus out of range, else the first number out of range
abbrev pub IsOutOfRange : MatrixMagma → MatrixRefusal → Type 0
IsOutOfRange g (Modulus value) = (IsModulus g.modulus → ⊥) × (value ≡ g.modulus)
IsOutOfRange g (Entry part row column value) = IsFirstOutOfRange g part row column value
IsOutOfRange g _ = ⊥

-- law n fails first at this point
pub record LawFailsBy (laws : List Equation) (g : MatrixMagma) (n : ℕ) (failure : MatrixFailure) : Type 0 where
  pub law : Equation
  pub listed : law_numbered laws n ≡ Some law
  pub first : IsFirstFailure g law failure

-- the first law that is to hold and fails
pub record IsHoldsOffence (laws : List Equation) (g : MatrixMagma) (holds : List ℕ) (r : MatrixRefusal) : Type 0 where
  pub place : ℕ
  pub number : ℕ
  pub failure : MatrixFailure
  pub is : r ≡ HoldsFails number failure
  pub stands : slice_get holds place ≡ Some number
  pub before : All (LawHolds laws g) (take place holds)
  pub fails : LawFailsBy laws g number failure

-- the first law that is to fail and holds
pub record IsFailsOffence (laws : List Equation) (g : MatrixMagma) (fails : List ℕ) (r : MatrixRefusal) : Type 0 where
  pub place : ℕ
  pub number : ℕ
  pub is : r ≡ FailsHolds number
  pub stands : slice_get fails place ≡ Some number
  pub before : All (LawFails laws g) (take place fails)
  pub holds : LawHolds laws g number

-- the first offence: of a law of `holds`, else of a law of `fails`
pub data IsFirstOffence (laws : List Equation) (g : MatrixMagma) (holds fails : List ℕ)
    (r : MatrixRefusal) : Type 0 where
  in_holds : IsHoldsOffence laws g holds r → IsFirstOffence laws g holds fails r
  in_fails : All (LawHolds laws g) holds → IsFailsOffence laws g fails r → IsFirstOffence laws g holds fails r
