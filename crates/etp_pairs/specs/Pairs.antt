-- The critical pair at a place.
use Rattle.std.specs.Prelude.{◌≡◌, ◌≤◌, ℕ, ◌+◌, List, Option, Some, None}
use Rattle.etp_theory.specs.Trees.{Tree, Equation, bound}
use Rattle.etp_theory.specs.Substitutions.{apply, Partial, total, raise}
use Rattle.etp_theory.specs.Positions.{Side, put_at}
use Rattle.etp_theory.specs.Overlaps.{Overlap, outer_part, inner_part}
use Rattle.etp_theory.specs.FailingOverlaps.{IsCriticalPair}
use Rattle.etp_theory.specs.Unifiers.{NoUnifier}
use Rattle.etp_term.specs.Terms.{tree_of}
use Rattle.etp_term.specs.Positions.{position_of}
use Rattle.etp_unify.specs.Unifying.{IsMost}
use Rattle.etp_pairs.specs.Numbering.{IsNumbered}
use Rattle.etp_pairs.specs.declared.pairing.CriticalPair.{CriticalPair}
use Rattle.etp_pairs.specs.declared.pairing.Results.{Results}

-- the overlap is of these rules, numbered from 1, at this position
pub record IsAt {rules : List Equation} (outer : ℕ) (position : List Side) (inner : ℕ) (o : Overlap rules) : Type 0 where
  pub outer_is : o.outer + 1 ≡ outer
  pub position_is : o.position ≡ position
  pub inner_is : o.inner + 1 ≡ inner

-- it has this critical pair, whose variables are numbered as they come
pub record IsPairOf {rules : List Equation} (o : Overlap rules) (s t : Tree) : Type 0 where
  pub critical : IsCriticalPair o s t
  pub numbered : IsNumbered s t
  pub left_small : bound s ≤ 64
  pub right_small : bound t ≤ 64

pub record IsPairAt (rules : List Equation) (outer : ℕ) (position : List Side) (inner : ℕ) (pair : CriticalPair) : Type 0 where
  pub overlapped : Overlap rules
  pub at : IsAt outer position inner overlapped
  pub outer_is : pair.outer ≡ outer
  pub position_is : position_of pair.position ≡ position
  pub inner_is : pair.inner ≡ inner
  pub results : IsPairOf overlapped (tree_of pair.left) (tree_of pair.right)

-- no overlap there has a unifier
abbrev pub HasNoPair : List Equation → ℕ → List Side → ℕ → Type 0
HasNoPair rules outer position inner =
    (o : Overlap rules) → IsAt outer position inner o → NoUnifier (outer_part o) (inner_part o)

-- the critical pair there, or that there is none
abbrev pub IsPair : List Equation → ℕ → List Side → ℕ → Option CriticalPair → Type 0
IsPair rules outer position inner None = HasNoPair rules outer position inner
IsPair rules outer position inner (Some pair) = IsPairAt rules outer position inner pair

-- both results by a most general unifier of the part and the inner left side, its variables raised
pub record AreResults (outer inner : Equation) (position : List Side) (part s t : Tree) : Type 0 where
  pub by : Partial
  pub most : IsMost by part (raise inner.left)
  pub left : s ≡ apply (total by) outer.right
  pub right : t ≡ put_at position (apply (total by) outer.left) (apply (total by) (raise inner.right))

abbrev pub AreUnified : Equation → Equation → List Side → Tree → Option Results → Type 0
AreUnified outer inner position part None = NoUnifier part (raise inner.left)
AreUnified outer inner position part (Some r) =
    AreResults outer inner position part (tree_of r.left) (tree_of r.right)
