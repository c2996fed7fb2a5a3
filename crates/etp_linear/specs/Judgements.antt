-- Laws that are to hold in a linear magma and laws that are to fail there, by their numbers.
use Rattle.std.specs.Prelude.{◌≡◌, ℕ, List, All, Some, slice_get, take}
use Rattle.etp_theory.specs.Trees.{Equation}
use Rattle.etp_theory.specs.Magmas.{Holds}
use Rattle.etp_theory.specs.LawNumbers.{law_numbered}
use Rattle.etp_linear.specs.Magmas.{LinearMagma, inside, times, IsFirstOutOfRange}
use Rattle.etp_linear.specs.Failures.{IsFirstFailure}
use Rattle.etp_linear.specs.declared.parts.LinearFailure.{LinearFailure}
use Rattle.etp_linear.specs.declared.refusal.LinearRefusal.{LinearRefusal}
use Rattle.etp_linear.specs.declared.refusal.LinearRefusal.TheVariants.{Coefficient, HoldsFails, FailsHolds}

pub record LawHolds (laws : List Equation) (l : LinearMagma) (n : ℕ) : Type 0 where
  pub law : Equation
  pub listed : law_numbered laws n ≡ Some law
  pub holds : Holds (inside l.ring) (times l) law.left law.right

pub record LawFails (laws : List Equation) (l : LinearMagma) (n : ℕ) : Type 0 where
  pub law : Equation
  pub listed : law_numbered laws n ≡ Some law
  pub fails : Holds (inside l.ring) (times l) law.left law.right → ⊥

-- each law of `holds` holds, and each law of `fails` fails
pub record IsJudged (laws : List Equation) (l : LinearMagma) (holds fails : List ℕ) : Type 0 where
  pub holding : All (LawHolds laws l) holds
  pub failing : All (LawFails laws l) fails

-- the first number that is out of range
abbrev pub IsOutOfRange : LinearMagma → LinearRefusal → Type 0
IsOutOfRange l (Coefficient which value) = IsFirstOutOfRange l which value
IsOutOfRange l _ = ⊥

-- law n fails first at this point
pub record LawFailsBy (laws : List Equation) (l : LinearMagma) (n : ℕ) (failure : LinearFailure) : Type 0 where
  pub law : Equation
  pub listed : law_numbered laws n ≡ Some law
  pub first : IsFirstFailure l law failure

-- the first law that is to hold and fails
pub record IsHoldsOffence (laws : List Equation) (l : LinearMagma) (holds : List ℕ) (r : LinearRefusal) : Type 0 where
  pub place : ℕ
  pub number : ℕ
  pub failure : LinearFailure
  pub is : r ≡ HoldsFails number failure
  pub stands : slice_get holds place ≡ Some number
  pub before : All (LawHolds laws l) (take place holds)
  pub fails : LawFailsBy laws l number failure

-- the first law that is to fail and holds
pub record IsFailsOffence (laws : List Equation) (l : LinearMagma) (fails : List ℕ) (r : LinearRefusal) : Type 0 where
  pub place : ℕ
  pub number : ℕ
  pub is : r ≡ FailsHolds number
  pub stands : slice_get fails place ≡ Some number
  pub before : All (LawFails laws l) (take place fails)
  pub holds : LawHolds laws l number

-- the first offence: of a law of `holds`, else of a law of `fails`
pub data IsFirstOffence (laws : List Equation) (l : LinearMagma) (holds fails : List ℕ)
    (r : LinearRefusal) : Type 0 where
  in_holds : IsHoldsOffence laws l holds r → IsFirstOffence laws l holds fails r
  in_fails : All (LawHolds laws l) holds → IsFailsOffence laws l fails r → IsFirstOffence laws l holds fails r
