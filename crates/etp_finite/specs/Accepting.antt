-- When a file is accepted, and the lists of files that are accepted one after the other.
use Rattle.std.specs.Prelude.{◌≡◌, ℕ, List, [], ◌∷◌, ◌++◌, None}
use Rattle.etp_theory.specs.Trees.{Equation}
use Rattle.etp_proof.specs.Names.{IsName}
use Rattle.etp_finite_body.specs.FiniteBodies.{FiniteFileBody}
use Rattle.etp_finite_check.specs.FiniteChecks.{IsFinitelyValidBody}
use Rattle.etp_finite.specs.Files.{File, body_named}

-- the name is free, and the body is finitely valid
pub record IsAccepted (laws : List Equation) (files : List File) (name : List ℕ) (body : FiniteFileBody)
    : Type 0 where
  pub spelled : IsName name
  pub free : body_named name files ≡ None
  pub valid : IsFinitelyValidBody laws body

-- each file is accepted after those before it
abbrev pub AreAcceptedAfter : List Equation → List File → List File → Type 0
AreAcceptedAfter laws before [] = Unit {0}
AreAcceptedAfter laws before (file ∷ files) =
    IsAccepted laws before file.name file.body
    × AreAcceptedAfter laws (before ++ file ∷ []) files

abbrev pub AreAccepted : List Equation → List File → Type 0
AreAccepted laws files = AreAcceptedAfter laws [] files
