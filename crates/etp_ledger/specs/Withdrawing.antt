-- When a file is withdrawn.
use Rattle.std.specs.Prelude.{◌≡◌, ℕ, List, [], ◌∷◌, Some, cond, Contains, All, slice_get, take}
use Rattle.etp_check.specs.Checks.{cites_of}
use Rattle.etp_ledger.specs.Files.{File, is_named, Stands}

-- the file cites the name
abbrev pub Cites : List ℕ → File → Type 0
Cites name file = Contains (cites_of file.body) name

-- the list without the file of the name
abbrev pub without : List ℕ → List File → List File
without name [] = []
without name (file ∷ files) = cond (is_named name file) files (file ∷ without name files)

-- the name stands, no file cites it, and its file alone is gone
pub record IsWithdrawn (files : List File) (name : List ℕ) (after : List File) : Type 0 where
  pub stood : Stands files name
  pub uncited : All (λ file. ¬ Cites name file) files
  pub gone : after ≡ without name files

-- the first file that cites the name stands at this place, counted from 0
pub record IsFirstCiting (files : List File) (name : List ℕ) (at : ℕ) : Type 0 where
  pub file : File
  pub stands : slice_get files at ≡ Some file
  pub cites : Cites name file
  pub before : All (λ other. ¬ Cites name other) (take at files)
