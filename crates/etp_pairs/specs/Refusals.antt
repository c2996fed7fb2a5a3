-- The first overlap of a system that fails, as a refusal says it.
use Rattle.std.specs.Prelude.{◌≤◌, ℕ, List}
use Rattle.etp_theory.specs.Trees.{Tree, Equation, bound}
use Rattle.etp_theory.specs.Positions.{Side}
use Rattle.etp_theory.specs.Overlaps.{Overlap}
use Rattle.etp_theory.specs.FailingOverlaps.{Finding, two_forms, term_limit, step_limit, IsFirstFailing}
use Rattle.etp_term.specs.Terms.{tree_of}
use Rattle.etp_term.specs.Positions.{position_of}
use Rattle.etp_pairs.specs.Pairs.{IsAt, IsPairOf}
use Rattle.etp_pairs.specs.declared.refusal.PairsRefusal.{PairsRefusal}
use Rattle.etp_pairs.specs.declared.refusal.PairsRefusal.TheVariants.{Unjoinable, TermLimit, StepLimit, NoMemory}

-- the overlap there is the first that fails, and this is found of its critical pair, whose variables
-- are numbered as they come
pub record IsFirstAt (rules : List Equation) (outer : ℕ) (position : List Side) (inner : ℕ) (f : Finding) : Type 0 where
  pub overlapped : Overlap rules
  pub at : IsAt outer position inner overlapped
  pub left : Tree
  pub right : Tree
  pub results : IsPairOf overlapped left right
  pub first : IsFirstFailing overlapped left right f

-- both forms and their variables, or the limit; want of memory needs no cause
abbrev pub IsRefused : List Equation → PairsRefusal → Type 0
IsRefused rules (Unjoinable outer position inner u v) =
    IsFirstAt rules outer (position_of position) inner (two_forms (tree_of u) (tree_of v))
    × (bound (tree_of u) ≤ 64) × (bound (tree_of v) ≤ 64)
IsRefused rules (TermLimit outer position inner) =
    IsFirstAt rules outer (position_of position) inner term_limit
IsRefused rules (StepLimit outer position inner) =
    IsFirstAt rules outer (position_of position) inner step_limit
IsRefused rules NoMemory = Unit {0}
