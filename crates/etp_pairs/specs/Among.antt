-- Overlaps at some places alone, as the program looks at them; no public clause cites it.
use Rattle.std.specs.Prelude.{◌≡◌, ◌≤◌, ◌+◌, ℕ, List, ◌++◌, Some, slice_get}
use Rattle.etp_theory.specs.Trees.{Tree, Equation, bound}
use Rattle.etp_theory.specs.Positions.{Side, sub_at}
use Rattle.etp_theory.specs.Overlaps.{Overlap, PairPasses}
use Rattle.etp_theory.specs.FailingOverlaps.{Place, place, PlaceBefore, Finding, two_forms, term_limit, step_limit, IsFinding}
use Rattle.etp_term.specs.Terms.{tree_of}
use Rattle.etp_term.specs.Positions.{position_of}
use Rattle.etp_pairs.specs.Pairs.{IsAt, IsPairOf}
use Rattle.etp_pairs.specs.declared.refusal.PairsRefusal.{PairsRefusal}
use Rattle.etp_pairs.specs.declared.refusal.PairsRefusal.TheVariants.{Unjoinable, TermLimit, StepLimit, NoMemory}

-- each overlap among these places passes
abbrev pub AllPass : List Equation → (Place → Type 0) → Type 0
AllPass rules among = (o : Overlap rules) → among (place o) → PairPasses rules o

pub record IsFirstAmong (rules : List Equation) (among : Place → Type 0) (outer : ℕ) (position : List Side) (inner : ℕ) (f : Finding) : Type 0 where
  pub overlapped : Overlap rules
  pub at : IsAt outer position inner overlapped
  pub inside : among (place overlapped)
  pub left : Tree
  pub right : Tree
  pub results : IsPairOf overlapped left right
  pub found : IsFinding rules left right f
  pub earlier : (o : Overlap rules) → among (place o) → PlaceBefore (place o) (place overlapped) → PairPasses rules o

abbrev pub IsRefusedAmong : List Equation → (Place → Type 0) → PairsRefusal → Type 0
IsRefusedAmong rules among (Unjoinable outer position inner u v) =
    IsFirstAmong rules among outer (position_of position) inner (two_forms (tree_of u) (tree_of v))
    × (bound (tree_of u) ≤ 64) × (bound (tree_of v) ≤ 64)
IsRefusedAmong rules among (TermLimit outer position inner) =
    IsFirstAmong rules among outer (position_of position) inner term_limit
IsRefusedAmong rules among (StepLimit outer position inner) =
    IsFirstAmong rules among outer (position_of position) inner step_limit
IsRefusedAmong rules among NoMemory = Unit {0}

-- the places of an outer rule, those inside a part of its left side, those at one position, and one
-- place; rules are numbered from 1

abbrev pub OfOuter : ℕ → Place → Type 0
OfOuter outer x = x.outer + 1 ≡ outer

abbrev pub InPart : ℕ → List Side → Place → Type 0
InPart outer position x = (x.outer + 1 ≡ outer) × ((q : List Side) × (x.position ≡ position ++ q))

abbrev pub AtPosition : ℕ → List Side → Place → Type 0
AtPosition outer position x = (x.outer + 1 ≡ outer) × (x.position ≡ position)

abbrev pub AtPlace : ℕ → List Side → ℕ → Place → Type 0
AtPlace outer position inner x =
    (x.outer + 1 ≡ outer) × (x.position ≡ position) × (x.inner + 1 ≡ inner)

-- the term stands at the position of the left side of the rule of this number
pub record IsPartOf (rules : List Equation) (outer : ℕ) (position : List Side) (t : Tree) : Type 0 where
  pub place_of_rule : ℕ
  pub rule : Equation
  pub number : place_of_rule + 1 ≡ outer
  pub listed : slice_get rules place_of_rule ≡ Some rule
  pub part : sub_at position rule.left ≡ Some t
