-- Files about finite magmas by their names.
use Rattle.std.specs.Prelude.{◌≡◌, ℕ, List, [], ◌∷◌, Option, Some, None, IsSome, cond, Bool, map}
use Rattle.std.specs.Str.{bytes_eq}
use Rattle.etp_theory.specs.Reach.{Fact}
use Rattle.etp_finite_body.specs.FiniteBodies.{FiniteFileBody}
use Rattle.etp_finite_check.specs.FiniteChecks.{fact_said}

-- a name, and what the lines of its file say
pub record File : Type 0 where
  pub name : List ℕ
  pub body : FiniteFileBody

-- what the files say, in order
abbrev pub facts_of : List File → List Fact
facts_of = map (λ file. fact_said file.body)

-- whether the file has the name
abbrev pub is_named : List ℕ → File → Bool
is_named name file = bytes_eq name file.name

-- what the file of a name says, where the name stands
abbrev pub body_named : List ℕ → List File → Option FiniteFileBody
body_named name [] = None
body_named name (file ∷ files) = cond (is_named name file) (Some file.body) (body_named name files)

-- a file of the name stands
abbrev pub Stands : List File → List ℕ → Type 0
Stands files name = IsSome (body_named name files)
