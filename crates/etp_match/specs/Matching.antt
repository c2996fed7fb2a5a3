-- When a pattern matches a term, and where it first doesn't.
use Rattle.std.specs.Prelude.{◌≡◌, ◌≢◌, ℕ, List, [], ◌∷◌, ◌++◌, Some}
use Rattle.etp_theory.specs.Trees.{Tree, var, op, Occurs}
use Rattle.etp_theory.specs.Substitutions.{apply, Partial, total}
use Rattle.etp_theory.specs.Positions.{Side, to_left, to_right, sub_at}
use Rattle.etp_term.specs.Positions.{position_of}
use Rattle.etp_match.specs.Bindings.{partial_of}
use Rattle.etp_match.specs.declared.subst.Binding.{Binding}
use Rattle.etp_match.specs.declared.matching.Matched.{Matched}
use Rattle.etp_match.specs.declared.matching.Matched.TheVariants.{Yes, No}
use Rattle.etp_match.specs.declared.matching.Outcome.{Outcome}
use Rattle.etp_match.specs.declared.matching.Outcome.TheVariants.{Fits, Misfit}

-- a substitution with the values of the partial map, and any for the variables without one
abbrev pub Extends : Partial → (ℕ → Tree) → Type 0
Extends earlier m = (v : ℕ) (t : Tree) → earlier.value v ≡ Some t → m v ≡ t

-- no substitution with these values takes the pattern to the term
abbrev pub NoneMatches : Tree → Tree → Partial → Type 0
NoneMatches pattern term earlier =
    (m : ℕ → Tree) → Extends earlier m → apply m pattern ≡ term → ⊥

-- the later map has the values of the earlier one and values for exactly the pattern's new
-- variables, and takes the pattern to the term
pub record IsExtendedTo (pattern term : Tree) (earlier later : Partial) : Type 0 where
  pub kept : (v : ℕ) (t : Tree) → earlier.value v ≡ Some t → later.value v ≡ Some t
  pub given : (v : ℕ) → Occurs v pattern → (t : Tree) × (later.value v ≡ Some t)
  pub others : (v : ℕ) → (Occurs v pattern → ⊥) → later.value v ≡ earlier.value v
  pub matched : apply (total later) pattern ≡ term

-- earlier in the order that has a root before its left part, and that before its right part
abbrev pub Before : List Side → List Side → Type 0
Before p [] = ⊥
Before [] (d ∷ q) = Unit {0}
Before (to_left ∷ p) (to_left ∷ q) = Before p q
Before (to_left ∷ p) (to_right ∷ q) = Unit {0}
Before (to_right ∷ p) (to_left ∷ q) = ⊥
Before (to_right ∷ p) (to_right ∷ q) = Before p q

-- at the position an operation of the pattern stands against a variable of the term, or a variable
-- of the pattern against another term than its value or than what it stands against before
pub data MisfitAt (earlier : Partial) (pattern term : Tree) (p : List Side) : Type 0 where
  operation : (a b : Tree) (v : ℕ) → sub_at p pattern ≡ Some (op a b) → sub_at p term ≡ Some (var v)
      → MisfitAt earlier pattern term p
  valued : (v : ℕ) (t u : Tree) → sub_at p pattern ≡ Some (var v) → sub_at p term ≡ Some t
      → earlier.value v ≡ Some u → u ≢ t → MisfitAt earlier pattern term p
  repeated : (q : List Side) (v : ℕ) (t u : Tree) → Before q p
      → sub_at p pattern ≡ Some (var v) → sub_at p term ≡ Some t
      → sub_at q pattern ≡ Some (var v) → sub_at q term ≡ Some u → u ≢ t
      → MisfitAt earlier pattern term p

pub record IsFirstMisfit (earlier : Partial) (pattern term : Tree) (p : List Side) : Type 0 where
  pub here : MisfitAt earlier pattern term p
  pub first : (q : List Side) → Before q p → MisfitAt earlier pattern term q → ⊥

-- no extension takes the pattern to the term: the first misfit is named, and nothing is changed
pub record IsUnmatched (pattern term : Tree) (earlier later : List Binding) (p : List Side) : Type 0 where
  pub none : NoneMatches pattern term (partial_of earlier)
  pub misfit : IsFirstMisfit (partial_of earlier) pattern term p
  pub unchanged : later ≡ earlier

abbrev pub IsMatched : Tree → Tree → List Binding → List Binding → Matched → Type 0
IsMatched pattern term earlier later Yes =
    IsExtendedTo pattern term (partial_of earlier) (partial_of later)
IsMatched pattern term earlier later (No position) =
    IsUnmatched pattern term earlier later (position_of position)

-- the values that a match adds, or the first misfit
abbrev pub IsOutcome : Tree → Tree → List Binding → Outcome → Type 0
IsOutcome pattern term earlier (Fits values) =
    IsExtendedTo pattern term (partial_of earlier) (partial_of (earlier ++ values.items))
IsOutcome pattern term earlier (Misfit position) =
    NoneMatches pattern term (partial_of earlier)
    × IsFirstMisfit (partial_of earlier) pattern term (position_of position)
