-- Why the ledger refuses.
use Rattle.std.specs.Prelude.{◌≡◌, ◌⊎◌, ℕ, List, None}
use Rattle.etp_laws.specs.LawLists.{LawList}
use Rattle.etp_theory.specs.LawNumbers.{IsLaw}
use Rattle.etp_finite_body.specs.FiniteBodies.{FiniteFileBody}
use Rattle.etp_finite_check.specs.FiniteRefusals.{IsBodyOffence}
use Rattle.etp_finite.specs.Files.{File, body_named, Stands}
use Rattle.etp_finite_check.specs.declared.refusal.FiniteRefusal.{FiniteRefusal}
use Rattle.etp_finite_check.specs.declared.refusal.FiniteRefusal.TheVariants.{NameTaken, NoSuchName, UnknownLaw, NoMemory}

-- the name is free, and the refusal is the body's first offence
abbrev pub IsBodyRefused : LawList → List File → List ℕ → FiniteFileBody → FiniteRefusal → Type 0
IsBodyRefused l files name body r = (body_named name files ≡ None) × IsBodyOffence l body r

-- the name stands; else the body's first offence; want of memory may come for any file
abbrev pub IsFileRefused : LawList → List File → List ℕ → FiniteFileBody → FiniteRefusal → Type 0
IsFileRefused l files name body r =
    ((r ≡ NameTaken) × Stands files name)
    ⊎ ((r ≡ NoMemory) ⊎ IsBodyRefused l files name body r)

-- the name doesn't stand
abbrev pub IsWithdrawalRefused : List File → List ℕ → FiniteRefusal → Type 0
IsWithdrawalRefused files name NoSuchName = body_named name files ≡ None
IsWithdrawalRefused files name _ = ⊥

-- the first of two numbers that is none of the laws 1 to the count
abbrev pub IsQuestionRefused : ℕ → ℕ → ℕ → FiniteRefusal → Type 0
IsQuestionRefused count e f (UnknownLaw number) =
    ((number ≡ e) × ¬ IsLaw count e) ⊎ ((number ≡ f) × IsLaw count e × ¬ IsLaw count f)
IsQuestionRefused count e f _ = ⊥
