-- When a file is withdrawn.
use Rattle.std.specs.Prelude.{◌≡◌, ℕ, List, [], ◌∷◌, cond}
use Rattle.etp_finite.specs.Files.{File, is_named, Stands}

-- the list without the file of the name
abbrev pub without : List ℕ → List File → List File
without name [] = []
without name (file ∷ files) = cond (is_named name file) files (file ∷ without name files)

-- the name stands, and its file alone is gone
pub record IsWithdrawn (files : List File) (name : List ℕ) (after : List File) : Type 0 where
  pub stood : Stands files name
  pub gone : after ≡ without name files
