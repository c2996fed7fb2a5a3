-- What a search has seen: the terms within so many steps of an end, and the least neighbours there.
use Rattle.std.specs.Prelude.{◌≡◌, ◌≢◌, ◌⊎◌, ◌↔◌, ℕ, ◌<◌, ◌≤◌, ◌++◌, false, List, Option, Some, None, slice_get}
use Rattle.std.specs.declared.cmp.Ordering.TheVariants.{Greater}
use Rattle.etp_theory.specs.Trees.{Tree, Equation}
use Rattle.etp_theory.specs.Proofs.{ProofStep}
use Rattle.etp_search.specs.Spaces.{Space, AreNeighbours, IsStepOf, IsWithin}
use Rattle.etp_search.specs.Shortest.{term_cmp, IsFirstPlace}

-- the term stands in the list from one place on and before another
pub record StandsIn (terms : List Tree) (start stop : ℕ) (t : Tree) : Type 0 where
  pub place : ℕ
  pub from : start ≤ place
  pub before : place < stop
  pub stands : slice_get terms place ≡ Some t

-- there is more in the list, behind what was there
abbrev pub IsGrown : List Tree → List Tree → Type 0
IsGrown old new = (added : List Tree) × (new ≡ old ++ added)

-- those before `stop` are the terms within k steps of the end; the neighbours of those before
-- `start` are among them
pub record IsLevel (space : Space) (end : Tree) (k start stop : ℕ) (terms : List Tree)
    : Type 0 where
  pub order : start ≤ stop
  pub exact : (t : Tree) → StandsIn terms 0 stop t ↔ IsWithin space end k t
  pub looked : (s t : Tree) → StandsIn terms 0 start s → AreNeighbours space s t
      → IsWithin space end k t

-- a neighbour of one of the terms that stand there
pub record IsBeside (space : Space) (terms : List Tree) (start stop : ℕ) (t : Tree) : Type 0 where
  pub term : Tree
  pub stands : StandsIn terms start stop term
  pub next : AreNeighbours space term t

-- the least of the terms there that have the property
pub record IsLeastOf (P : Tree → Type 0) (terms : List Tree) (start stop : ℕ) (t : Tree)
    : Type 0 where
  pub among : StandsIn terms start stop t
  pub has : P t
  pub least : (u : Tree) → StandsIn terms start stop u → P u → term_cmp t u ≢ Greater

-- the same, or that none has it
abbrev pub IsLeastIn : (Tree → Type 0) → List Tree → ℕ → ℕ → Option Tree → Type 0
IsLeastIn P terms start stop None = (u : Tree) → StandsIn terms start stop u → P u → ⊥
IsLeastIn P terms start stop (Some t) = IsLeastOf P terms start stop t

-- another term is taken where a step leads to it, unless the one before is less
pub data IsLesser (law : Equation) (s : Tree) (least : Option Tree) (t : Tree)
    (result : Option Tree) : Type 0 where
  skipped : (IsStepOf law s t → ⊥) → result ≡ least → IsLesser law s least t result
  taken : (r : Tree) → IsStepOf law s t → result ≡ Some r → (least ≡ Some r) ⊎ (r ≡ t)
      → term_cmp r t ≢ Greater → ((u : Tree) → least ≡ Some u → term_cmp r u ≢ Greater)
      → IsLesser law s least t result

-- by the hypothesis, to a term at its first place
pub record IsPlacedStep (law : Equation) (s t : Tree) (x : ProofStep) : Type 0 where
  pub to : x.to ≡ t
  pub place : IsFirstPlace law s x.to x.position x.reversed
  pub by_hypothesis : x.line ≡ 0
  pub not_cited : x.cited ≡ false

-- to the least neighbour among the terms there, at its first place
pub record IsNearestStep (space : Space) (terms : List Tree) (start stop : ℕ) (s : Tree)
    (x : ProofStep) : Type 0 where
  pub nearest : IsLeastOf (AreNeighbours space s) terms start stop x.to
  pub place : IsFirstPlace space.law s x.to x.position x.reversed
  pub by_hypothesis : x.line ≡ 0
  pub not_cited : x.cited ≡ false
