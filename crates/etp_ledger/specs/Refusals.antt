-- Why the ledger refuses.
use Rattle.std.specs.Prelude.{◌≡◌, ◌⊎◌, ◌+◌, ℕ, List, Option, Some, None, All, slice_get, take}
use Rattle.etp_laws.specs.LawLists.{LawList}
use Rattle.etp_items.specs.Bodies.{FileBody}
use Rattle.etp_theory.specs.LawNumbers.{IsLaw}
use Rattle.etp_check.specs.Checks.{fact_said, hypothesis_of, cites_of}
use Rattle.etp_check.specs.Refusals.{IsBodyOffence}
use Rattle.etp_ledger.specs.Files.{File, body_named, Stands, IsFrom, StandsAsProof, cited_goals}
use Rattle.etp_ledger.specs.Withdrawing.{IsFirstCiting}
use Rattle.etp_ledger.specs.declared.refusal.LedgerRefusal.{LedgerRefusal}
use Rattle.etp_ledger.specs.declared.refusal.LedgerRefusal.TheVariants.{NameTaken, NoSuchName, Check, UnknownLaw, Cited, CiteMissing, CiteOther, NoMemory}

-- a file that stands is no proof from the hypothesis
abbrev pub ProvesOther : Option ℕ → Option FileBody → Type 0
ProvesOther hypothesis None = ⊥
ProvesOther hypothesis (Some body) = ¬ IsFrom hypothesis (fact_said body)

-- the cite of this number names no file, or it names a file that is no proof from the hypothesis
abbrev pub IsCiteRefused : List File → Option ℕ → List ℕ → ℕ → LedgerRefusal → Type 0
IsCiteRefused files hypothesis name number (CiteMissing cite) =
    (cite ≡ number) × (body_named name files ≡ None)
IsCiteRefused files hypothesis name number (CiteOther cite) =
    (cite ≡ number) × ProvesOther hypothesis (body_named name files)
IsCiteRefused files hypothesis name number _ = ⊥

-- all cites before one stand for proofs from the hypothesis, and that one is refused; cites count
-- from 1
pub record IsFirstCiteRefused (files : List File) (hypothesis : Option ℕ)
    (names : List (List ℕ)) (r : LedgerRefusal) : Type 0 where
  pub place : ℕ
  pub name : List ℕ
  pub cited : slice_get names place ≡ Some name
  pub before : All (StandsAsProof files hypothesis) (take place names)
  pub refused : IsCiteRefused files hypothesis name (place + 1) r

-- want of memory, or the first cite that is refused
abbrev pub AreCitesRefused : List File → Option ℕ → List (List ℕ) → LedgerRefusal → Type 0
AreCitesRefused files hypothesis names r =
    (r ≡ NoMemory) ⊎ IsFirstCiteRefused files hypothesis names r

-- the name stands; else the first wrong cite; else the body's first offence; want of memory may
-- come for any file
abbrev pub IsFileRefused : LawList → List File → List ℕ → FileBody → LedgerRefusal → Type 0
IsFileRefused l files name body NameTaken = Stands files name
IsFileRefused l files name body (CiteMissing cite) =
    (body_named name files ≡ None)
    × IsFirstCiteRefused files (hypothesis_of body) (cites_of body) (CiteMissing cite)
IsFileRefused l files name body (CiteOther cite) =
    (body_named name files ≡ None)
    × IsFirstCiteRefused files (hypothesis_of body) (cites_of body) (CiteOther cite)
IsFileRefused l files name body (Check r) =
    (body_named name files ≡ None) × All (StandsAsProof files (hypothesis_of body)) (cites_of body)
    × IsBodyOffence l body (cited_goals files body) r
IsFileRefused l files name body NoMemory = Unit {0}
IsFileRefused l files name body _ = ⊥

-- the name doesn't stand; else a file cites it
abbrev pub IsWithdrawalRefused : List File → List ℕ → LedgerRefusal → Type 0
IsWithdrawalRefused files name NoSuchName = body_named name files ≡ None
IsWithdrawalRefused files name (Cited by) = Stands files name × IsFirstCiting files name by
IsWithdrawalRefused files name _ = ⊥

-- the first of two numbers that is none of the laws 1 to the count
abbrev pub IsQuestionRefused : ℕ → ℕ → ℕ → LedgerRefusal → Type 0
IsQuestionRefused count e f (UnknownLaw number) =
    ((number ≡ e) × ¬ IsLaw count e) ⊎ ((number ≡ f) × IsLaw count e × ¬ IsLaw count f)
IsQuestionRefused count e f _ = ⊥

-- want of memory, or such a number
abbrev pub IsWhyRefused : ℕ → ℕ → ℕ → LedgerRefusal → Type 0
IsWhyRefused count e f r = (r ≡ NoMemory) ⊎ IsQuestionRefused count e f r
