-- Files by their names.
use Rattle.std.specs.Prelude.{◌≡◌, ℕ, List, [], ◌∷◌, Option, Some, None, IsSome, cond, Bool, map}
use Rattle.std.specs.Str.{bytes_eq}
use Rattle.etp_theory.specs.Reach.{Fact, implies, refutes}
use Rattle.etp_items.specs.Bodies.{FileBody}
use Rattle.etp_check.specs.Checks.{fact_said, cites_of}

-- a name, and what the lines of its file say
pub record File : Type 0 where
  pub name : List ℕ
  pub body : FileBody

-- what the files say, in order
abbrev pub facts_of : List File → List Fact
facts_of = map (λ file. fact_said file.body)

-- whether the file has the name
abbrev pub is_named : List ℕ → File → Bool
is_named name file = bytes_eq name file.name

-- what the file of a name says, where the name stands
abbrev pub body_named : List ℕ → List File → Option FileBody
body_named name [] = None
body_named name (file ∷ files) = cond (is_named name file) (Some file.body) (body_named name files)

-- a file of the name stands
abbrev pub Stands : List File → List ℕ → Type 0
Stands files name = IsSome (body_named name files)

-- the fact is an implication from this hypothesis
abbrev pub IsFrom : Option ℕ → Fact → Type 0
IsFrom hypothesis (implies from goal) = hypothesis ≡ Some from
IsFrom hypothesis (refutes holds fails) = ⊥

-- a file stands, and it is a proof from this hypothesis
abbrev pub ProvesFrom : Option ℕ → Option FileBody → Type 0
ProvesFrom hypothesis None = ⊥
ProvesFrom hypothesis (Some body) = IsFrom hypothesis (fact_said body)

-- the name stands for a proof from this hypothesis
abbrev pub StandsAsProof : List File → Option ℕ → List ℕ → Type 0
StandsAsProof files hypothesis name = ProvesFrom hypothesis (body_named name files)

-- the goal of an implication
abbrev pub goal_said : Fact → ℕ
goal_said (implies hypothesis goal) = goal
goal_said (refutes holds fails) = 0

abbrev pub goal_in : Option FileBody → ℕ
goal_in None = 0
goal_in (Some body) = goal_said (fact_said body)

-- the goals of the files that a body cites, in order
abbrev pub cited_goals : List File → FileBody → List ℕ
cited_goals files body = map (λ name. goal_in (body_named name files)) (cites_of body)
