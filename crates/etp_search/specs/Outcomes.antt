-- What a search comes to.
use Rattle.std.specs.Prelude.{◌≡◌, ◌+◌, ℕ, ◌<◌, ◌≤◌, List, [], ◌∷◌, ◌++◌, All, length}
use Rattle.etp_theory.specs.Trees.{Tree, Equation}
use Rattle.etp_theory.specs.Proofs.{ProofStep, Lemma, last_term, AreRightSteps}
use Rattle.etp_proof.specs.Lemmas.{lemma_of}
use Rattle.etp_search.specs.Spaces.{Space, IsSearchTerm, IsWithin, AreMoreThan}
use Rattle.etp_search.specs.Levels.{IsNearestStep}
use Rattle.etp_search.specs.Shortest.{AreLeastSteps, IsUndecided, IsReached}
use Rattle.etp_search.specs.declared.levels.Outcome.{Outcome}
use Rattle.etp_search.specs.declared.levels.Outcome.TheVariants.{Reached, Nothing, Budget}

-- a proof of one lemma from the law alone, over the terms of the space, from the goal's left side to
-- its right side
pub record IsProofOver (space : Space) (goal : Equation) (l : Lemma) : Type 0 where
  pub start : l.start ≡ goal.left
  pub end : last_term l.start l.steps ≡ goal.right
  pub right : AreRightSteps space.law [] [] l.start l.steps
  pub from : IsSearchTerm space l.start
  pub over : All (λ x. IsSearchTerm space x.to) l.steps

-- no smaller number of steps decides, this one reaches the end, and each step is the least
pub record IsShortest (space : Space) (goal : Equation) (steps : ℕ) (l : Lemma) : Type 0 where
  pub within : length l.steps ≤ steps
  pub first : IsReached space goal (length l.steps)
  pub reached : IsWithin space goal.right (length l.steps) goal.left
  pub start : l.start ≡ goal.left
  pub least : AreLeastSteps space goal.right (length l.steps) goal.left l.steps

-- no smaller number of steps decides, this one doesn't reach the end, and there are too many terms
pub record IsSpent (space : Space) (goal : Equation) (steps level : ℕ) : Type 0 where
  pub within : level ≤ steps
  pub first : IsReached space goal level
  pub apart : IsWithin space goal.right level goal.left → ⊥
  pub many : AreMoreThan 200000 (IsWithin space goal.right level)

-- no number of steps decides
abbrev pub IsUnreached : Space → Equation → ℕ → Type 0
IsUnreached space goal steps = (k : ℕ) → k ≤ steps → IsUndecided space goal k

-- the first steps of a shortest proof, down to where k steps are left
pub record IsLedTo (space : Space) (goal : Equation) (steps k : ℕ) (l : Lemma) : Type 0 where
  pub far : ℕ
  pub within : far ≤ steps
  pub first : IsReached space goal far
  pub reached : IsWithin space goal.right far goal.left
  pub start : l.start ≡ goal.left
  pub count : length l.steps + k ≡ far
  pub arrived : IsWithin space goal.right k (last_term l.start l.steps)
  pub not_before : (j : ℕ) → j < k → IsWithin space goal.right j (last_term l.start l.steps) → ⊥
  pub least : (rest : List ProofStep)
      → AreLeastSteps space goal.right k (last_term l.start l.steps) rest
      → AreLeastSteps space goal.right far goal.left (l.steps ++ rest)

-- no steps
abbrev pub unmoved : Tree → Lemma
unmoved s = record { start = s; steps = [] }

-- the lemma with one step more
abbrev pub pushed : Lemma → ProofStep → Lemma
pushed l x = record { start = l.start; steps = l.steps ++ x ∷ [] }

-- the lemma has one step more, which is the nearest
pub record IsSteppedOn (space : Space) (terms : List Tree) (start stop : ℕ) (l m : Lemma)
    : Type 0 where
  pub step : ProofStep
  pub nearest : IsNearestStep space terms start stop (last_term l.start l.steps) step
  pub longer : m ≡ pushed l step

-- what a search from level k on comes to
abbrev pub IsOutcomeFrom : Space → Equation → ℕ → ℕ → Outcome → Type 0
IsOutcomeFrom space goal steps k (Reached l) = IsLedTo space goal steps k (lemma_of l)
IsOutcomeFrom space goal steps k Nothing = IsUnreached space goal steps
IsOutcomeFrom space goal steps k (Budget level) = IsSpent space goal steps level

abbrev pub IsOutcome : Space → Equation → ℕ → Outcome → Type 0
IsOutcome space goal steps (Reached l) = IsShortest space goal steps (lemma_of l)
IsOutcome space goal steps Nothing = IsUnreached space goal steps
IsOutcome space goal steps (Budget level) = IsSpent space goal steps level
