-- Laws that are to hold in the normal forms of a rule system and laws that are to fail there, by
-- their numbers.
use Rattle.std.specs.Prelude.{◌≡◌, ◌⊎◌, ℕ, List, All, Some, slice_get, take}
use Rattle.etp_theory.specs.Trees.{Tree, Equation}
use Rattle.etp_theory.specs.LawNumbers.{law_numbered}
use Rattle.etp_theory.specs.Forms.{IsFormOf, HaveOneForm}
use Rattle.etp_theory.specs.FailingOverlaps.{Finding, two_forms, term_limit, step_limit, IsFinding}
use Rattle.etp_term.specs.Terms.{tree_of}
use Rattle.etp_canonical.specs.declared.refusal.ClaimRefusal.{ClaimRefusal}
use Rattle.etp_canonical.specs.declared.refusal.ClaimRefusal.TheVariants.{HoldsFails, FailsHolds, TermLimit, StepLimit, NoMemory}

-- the sides of law n have one form within the limits
pub record LawHolds (laws rules : List Equation) (n : ℕ) : Type 0 where
  pub law : Equation
  pub listed : law_numbered laws n ≡ Some law
  pub holds : HaveOneForm rules law.left law.right

-- they don't have one, and this is found of them: two different forms, or the limit that the walk
-- of the left side passes, else that of the right side
pub record IsFoundOf (laws rules : List Equation) (n : ℕ) (f : Finding) : Type 0 where
  pub law : Equation
  pub listed : law_numbered laws n ≡ Some law
  pub found : IsFinding rules law.left law.right f

-- they have two different forms within the limits
pub record LawFails (laws rules : List Equation) (n : ℕ) : Type 0 where
  pub left_form : Tree
  pub right_form : Tree
  pub found : IsFoundOf laws rules n (two_forms left_form right_form)

-- this is the form of both
pub record IsFormOfBoth (laws rules : List Equation) (n : ℕ) (u : Tree) : Type 0 where
  pub law : Equation
  pub listed : law_numbered laws n ≡ Some law
  pub of_left : IsFormOf rules law.left u
  pub of_right : IsFormOf rules law.right u

-- each law of `holds` holds, and each law of `fails` fails
pub record IsJudged (laws rules : List Equation) (holds fails : List ℕ) : Type 0 where
  pub holding : All (LawHolds laws rules) holds
  pub failing : All (LawFails laws rules) fails

-- why law n, which is to hold, doesn't: two forms or a limit
abbrev pub IsWhyNotHolding : List Equation → List Equation → ℕ → ClaimRefusal → Type 0
IsWhyNotHolding laws rules n (HoldsFails law u v) =
    (law ≡ n) × IsFoundOf laws rules n (two_forms (tree_of u) (tree_of v))
IsWhyNotHolding laws rules n (TermLimit law) = (law ≡ n) × IsFoundOf laws rules n term_limit
IsWhyNotHolding laws rules n (StepLimit law) = (law ≡ n) × IsFoundOf laws rules n step_limit
IsWhyNotHolding laws rules n _ = ⊥

-- why law n, which is to fail, doesn't: one form or a limit
abbrev pub IsWhyNotFailing : List Equation → List Equation → ℕ → ClaimRefusal → Type 0
IsWhyNotFailing laws rules n (FailsHolds law u) = (law ≡ n) × IsFormOfBoth laws rules n (tree_of u)
IsWhyNotFailing laws rules n (TermLimit law) = (law ≡ n) × IsFoundOf laws rules n term_limit
IsWhyNotFailing laws rules n (StepLimit law) = (law ≡ n) × IsFoundOf laws rules n step_limit
IsWhyNotFailing laws rules n _ = ⊥

-- the first law that is to hold and doesn't
pub record IsHoldsOffence (laws rules : List Equation) (holds : List ℕ)
    (r : ClaimRefusal) : Type 0 where
  pub place : ℕ
  pub number : ℕ
  pub stands : slice_get holds place ≡ Some number
  pub before : All (LawHolds laws rules) (take place holds)
  pub why : IsWhyNotHolding laws rules number r

-- the first law that is to fail and doesn't
pub record IsFailsOffence (laws rules : List Equation) (fails : List ℕ)
    (r : ClaimRefusal) : Type 0 where
  pub place : ℕ
  pub number : ℕ
  pub stands : slice_get fails place ≡ Some number
  pub before : All (LawFails laws rules) (take place fails)
  pub why : IsWhyNotFailing laws rules number r

-- the first offence: of a law of `holds`, else of a law of `fails`
pub data IsFirstOffence (laws rules : List Equation) (holds fails : List ℕ)
    (r : ClaimRefusal) : Type 0 where
  in_holds : IsHoldsOffence laws rules holds r → IsFirstOffence laws rules holds fails r
  in_fails : All (LawHolds laws rules) holds → IsFailsOffence laws rules fails r
      → IsFirstOffence laws rules holds fails r

-- want of memory, which needs no cause, or such a refusal
abbrev pub OrNoMemory : (ClaimRefusal → Type 0) → ClaimRefusal → Type 0
OrNoMemory IsSo r = (r ≡ NoMemory) ⊎ IsSo r
