-- A file and a withdrawal have one verdict.
use Rattle.std.specs.Prelude.{◌≡◌, ◌⊎◌, ◌∷◌, ◌++◌, ℕ, List, [], None, All}
use Rattle.etp_theory.specs.Trees.{Equation}
use Rattle.etp_laws.specs.Listing.{IsTheList}
use Rattle.etp_laws.specs.LawLists.{LawList}
use Rattle.etp_items.specs.Bodies.{FileBody}
use Rattle.etp_check.specs.Checks.{IsRightBody, hypothesis_of, cites_of}
use Rattle.etp_ledger.specs.Files.{File, body_named, StandsAsProof, cited_goals}
use Rattle.etp_ledger.specs.Accepting.{IsAccepted, AreAccepted}
use Rattle.etp_ledger.specs.Withdrawing.{IsWithdrawn}
use Rattle.etp_ledger.specs.Refusals.{IsFileRefused, IsWithdrawalRefused}
use Rattle.etp_ledger.specs.declared.refusal.LedgerRefusal.{LedgerRefusal}
use Rattle.etp_ledger.specs.declared.refusal.LedgerRefusal.TheVariants.{NoMemory}

pub record LedgerTheorems : Type 0 where
  -- a file that can be accepted is refused for want of memory alone
  pub accepted_or_refused : (l : LawList) (files : List File) (name : List ℕ) (body : FileBody)
      (r : LedgerRefusal) → IsAccepted l.equations files name body
      → IsFileRefused l files name body r → r ≡ NoMemory
  -- for that it is enough that the name is free, each cite is a proof from the hypothesis, and the
  -- body is right
  pub right_or_refused : (l : LawList) (files : List File) (name : List ℕ) (body : FileBody)
      (r : LedgerRefusal) → body_named name files ≡ None
      → All (StandsAsProof files (hypothesis_of body)) (cites_of body)
      → IsRightBody l.equations body (cited_goals files body)
      → IsFileRefused l files name body r → r ≡ NoMemory
  -- besides want of memory a file is refused in one way
  pub one_refusal : (l : LawList) (files : List File) (name : List ℕ) (body : FileBody)
      (r s : LedgerRefusal) → IsTheList l.order l.equations → IsFileRefused l files name body r
      → IsFileRefused l files name body s → (r ≡ NoMemory) ⊎ ((s ≡ NoMemory) ⊎ (r ≡ s))
  -- a file that can be withdrawn isn't refused, and any other in one way
  pub withdrawn_or_refused : (files : List File) (name : List ℕ) (after : List File)
      (r : LedgerRefusal) → IsWithdrawn files name after → ¬ IsWithdrawalRefused files name r
  pub one_withdrawal_refusal : (files : List File) (name : List ℕ) (r s : LedgerRefusal)
      → IsWithdrawalRefused files name r → IsWithdrawalRefused files name s → r ≡ s
  -- files stay accepted one after the other
  pub one_more : (laws : List Equation) (files : List File) (name : List ℕ) (body : FileBody)
      → AreAccepted laws files → IsAccepted laws files name body
      → AreAccepted laws (files ++ record { name = name; body = body } ∷ [])
  pub one_less : (laws : List Equation) (files : List File) (name : List ℕ) (after : List File)
      → AreAccepted laws files → IsWithdrawn files name after → AreAccepted laws after
