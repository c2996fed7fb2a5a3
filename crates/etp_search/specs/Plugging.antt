-- Terms with a hole, which is variable 255, and what a step makes of the term in the hole.
use Rattle.std.specs.Prelude.{◌≡◌, ◌⊎◌, ℕ, ◌<◌, ◌+◌}
use Rattle.etp_theory.specs.Trees.{Tree, var, Occurs, Equation}
use Rattle.etp_theory.specs.Substitutions.{apply, Partial, value_or}
use Rattle.etp_term.specs.Terms.{tree_of}
use Rattle.etp_search.specs.Spaces.{Space, IsSearchTerm, IsStepOf}
use Rattle.etp_search.specs.Filling.{at_one}
use Rattle.etp_search.specs.declared.expanding.Reading.{Reading}

abbrev pub reading_of : Reading → Equation
reading_of reading = record { left = tree_of reading.left.now; right = tree_of reading.right.now }

-- the variables are below n
abbrev pub IsBelow : ℕ → Tree → Type 0
IsBelow n t = (v : ℕ) → Occurs v t → v < n

-- the term with another one in its hole
abbrev pub plugged : Tree → Tree → Tree
plugged context s = apply (at_one 255 s) context

-- the variables are below m, but for the hole
abbrev pub IsContext : ℕ → Tree → Type 0
IsContext m context = (v : ℕ) → Occurs v context → (v < m) ⊎ (v ≡ 255)

-- a variable's value, or a slot for it
abbrev pub value_or_slot : Partial → ℕ → Tree
value_or_slot s v = value_or (s.value v) (var (v + 64))

-- a term of the space, by the equation in the hole
pub record IsReplacedBy (space : Space) (e : Equation) (context s t : Tree) : Type 0 where
  pub within : IsSearchTerm space t
  pub by : ℕ → Tree
  pub before : apply by e.left ≡ s
  pub becomes : plugged context (apply by e.right) ≡ t

-- a term of the space, by a step in the hole
pub record IsSteppedTo (space : Space) (context s t : Tree) : Type 0 where
  pub within : IsSearchTerm space t
  pub next : Tree
  pub step : IsStepOf space.law s next
  pub becomes : plugged context next ≡ t
