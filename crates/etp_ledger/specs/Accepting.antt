-- When a file is accepted, and the lists of files that are accepted one after the other.
use Rattle.std.specs.Prelude.{◌≡◌, ℕ, List, [], ◌∷◌, ◌++◌, None, All}
use Rattle.etp_theory.specs.Trees.{Equation}
use Rattle.etp_laws.specs.Listing.{IsTheList}
use Rattle.etp_items.specs.Bodies.{FileBody}
use Rattle.etp_proof.specs.Names.{IsName}
use Rattle.etp_check.specs.Checks.{IsValidBody, hypothesis_of, cites_of}
use Rattle.etp_ledger.specs.Files.{File, body_named, StandsAsProof, cited_goals}

-- each cited name stands for a proof from the body's hypothesis, and the body is valid with the
-- goals of the files that it cites
pub record IsValidOver (laws : List Equation) (files : List File) (body : FileBody) : Type 0 where
  pub cited : All (StandsAsProof files (hypothesis_of body)) (cites_of body)
  pub valid : IsValidBody laws body (cited_goals files body)

-- the name is free, and the body is valid over the files that stand
pub record IsAccepted (laws : List Equation) (files : List File) (name : List ℕ) (body : FileBody)
    : Type 0 where
  pub spelled : IsName name
  pub free : body_named name files ≡ None
  pub valid : IsValidOver laws files body

-- each file is accepted after those before it
abbrev pub AreAcceptedAfter : List Equation → List File → List File → Type 0
AreAcceptedAfter laws before [] = Unit {0}
AreAcceptedAfter laws before (file ∷ files) =
    IsAccepted laws before file.name file.body
    × AreAcceptedAfter laws (before ++ file ∷ []) files

abbrev pub AreAccepted : List Equation → List File → Type 0
AreAccepted laws files = AreAcceptedAfter laws [] files

-- over the list of the order's laws the body is valid over the files
abbrev pub IsValidFor : ℕ → List File → FileBody → Type 0
IsValidFor order files body =
    (laws : List Equation) → IsTheList order laws → IsValidOver laws files body
