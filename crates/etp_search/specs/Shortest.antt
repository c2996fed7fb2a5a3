-- Shortest proofs: their steps, and where the search for one is decided.
use Rattle.std.specs.Prelude.{◌≡◌, ◌≢◌, ℕ, zero, suc, ◌<◌, Bool, false, IsTrue, List, [], ◌∷◌}
use Rattle.std.specs.Ordering.{nat_cmp, ordering_then}
use Rattle.std.specs.Cmp.Lexicographic.{slice_cmp}
use Rattle.std.specs.declared.cmp.Ordering.{Ordering}
use Rattle.std.specs.declared.cmp.Ordering.TheVariants.{Greater}
use Rattle.etp_theory.specs.Trees.{Tree, leaves, shape_of, word_of, Equation}
use Rattle.etp_theory.specs.Positions.{Side}
use Rattle.etp_theory.specs.Orders.{shape_cmp}
use Rattle.etp_theory.specs.Proofs.{ProofStep, as_read, IsStepBy}
use Rattle.etp_match.specs.Matching.{Before}
use Rattle.etp_search.specs.Spaces.{Space, AreNeighbours, IsWithin, AreMoreThan}

-- the order of terms: by leaves, then shape, then word
abbrev pub term_cmp : Tree → Tree → Ordering
term_cmp s t =
    ordering_then (nat_cmp (leaves s) (leaves t))
    (ordering_then (shape_cmp (shape_of s) (shape_of t)) (slice_cmp nat_cmp (word_of s) (word_of t)))

-- a right step at the position and at none before it, reversed only where it isn't right forwards
pub record IsFirstPlace (law : Equation) (s t : Tree) (position : List Side) (reversed : Bool) : Type 0 where
  pub right : IsStepBy (as_read reversed law) position s t
  pub first : (p : List Side) (r : Bool) → Before p position → IsStepBy (as_read r law) p s t → ⊥
  pub forwards : IsTrue reversed → IsStepBy law position s t → ⊥

-- a step to the least neighbour from which at most k steps lead to the end, at its first place
pub record IsLeastStep (space : Space) (end : Tree) (k : ℕ) (s : Tree) (x : ProofStep) : Type 0 where
  pub next : AreNeighbours space s x.to
  pub nearer : IsWithin space end k x.to
  pub least : (t : Tree) → AreNeighbours space s t → IsWithin space end k t → term_cmp x.to t ≢ Greater
  pub place : IsFirstPlace space.law s x.to x.position x.reversed
  pub by_hypothesis : x.line ≡ 0
  pub not_cited : x.cited ≡ false

-- k such steps, each with one step fewer left, lead to the end
abbrev pub AreLeastSteps : Space → Tree → ℕ → Tree → List ProofStep → Type 0
AreLeastSteps space end zero s [] = s ≡ end
AreLeastSteps space end zero s (x ∷ xs) = ⊥
AreLeastSteps space end (suc k) s [] = ⊥
AreLeastSteps space end (suc k) s (x ∷ xs) =
    IsLeastStep space end k s x × AreLeastSteps space end k x.to xs

-- no proof of k steps, and the terms within k steps of the end aren't more than 200000
pub record IsUndecided (space : Space) (goal : Equation) (k : ℕ) : Type 0 where
  pub apart : IsWithin space goal.right k goal.left → ⊥
  pub few : AreMoreThan 200000 (IsWithin space goal.right k) → ⊥

-- no smaller number of steps decides
abbrev pub IsReached : Space → Equation → ℕ → Type 0
IsReached space goal k = (j : ℕ) → j < k → IsUndecided space goal j
