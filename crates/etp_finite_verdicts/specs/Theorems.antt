-- A file about finite magmas has one verdict.
use Rattle.std.specs.Prelude.{◌≡◌, ℕ, Bool, List}
use Rattle.etp_io.specs.Texts.{LineText}
use Rattle.etp_laws.specs.Listing.{IsTheList}
use Rattle.etp_laws.specs.LawLists.{LawList}
use Rattle.etp_finite_body.specs.FiniteBodies.{FiniteFileBody}
use Rattle.etp_finite_body.specs.Reading.{IsReadFiniteBody, FiniteRefuses}
use Rattle.etp_finite_body.specs.declared.refusal.FiniteBodyRefusal.{FiniteBodyRefusal}
use Rattle.etp_finite_check.specs.FiniteChecks.{IsRightBody}
use Rattle.etp_finite_check.specs.FiniteRefusals.{IsBodyOffence}
use Rattle.etp_finite_check.specs.declared.refusal.FiniteRefusal.{FiniteRefusal}
use Rattle.etp_finite_check.specs.declared.refusal.FiniteRefusal.TheVariants.{NoMemory}
use Rattle.etp_finite.specs.Files.{File}
use Rattle.etp_finite.specs.Accepting.{IsAccepted}
use Rattle.etp_finite.specs.Refusals.{IsFileRefused}

pub record FiniteVerdictTheorems : Type 0 where
  -- lines are one body
  pub one_body : (count : ℕ) (lines : List LineText) (closed : Bool) (b c : FiniteFileBody)
      → IsReadFiniteBody count lines closed b → IsReadFiniteBody count lines closed c → b ≡ c
  -- and lines that are one aren't refused
  pub body_stands : (count : ℕ) (lines : List LineText) (closed : Bool) (b : FiniteFileBody)
      (r : FiniteBodyRefusal) → IsReadFiniteBody count lines closed b
      → FiniteRefuses count lines closed r → ⊥
  -- over the list of the laws a body has one first offence
  pub one_offence : (l : LawList) (body : FiniteFileBody) (r s : FiniteRefusal)
      → IsTheList l.order l.equations → IsBodyOffence l body r → IsBodyOffence l body s → r ≡ s
  -- and one that is right has none
  pub right_or_refused : (l : LawList) (body : FiniteFileBody) (r : FiniteRefusal)
      → IsRightBody l.equations body → IsBodyOffence l body r → ⊥
  -- so where the name is free and the body is finitely valid, a refusal is want of memory
  pub accepted : (l : LawList) (files : List File) (name : List ℕ) (body : FiniteFileBody)
      (r : FiniteRefusal) → IsAccepted l.equations files name body
      → IsFileRefused l files name body r → r ≡ NoMemory
