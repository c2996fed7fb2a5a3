-- Rewriting by a list of rules.
use Rattle.std.specs.Prelude.{◌≡◌, ℕ, List, Some, slice_get}
use Rattle.etp_theory.specs.Trees.{Tree, op, Equation}
use Rattle.etp_theory.specs.Substitutions.{apply}
use Rattle.etp_theory.specs.Positions.{Side, sub_at, put_at}

-- one rewriting, by cases
pub data Step (rules : List Equation) : Tree → Tree → Type 0 where
  at_root : {s t : Tree} (i : ℕ) (e : Equation) (m : ℕ → Tree) → slice_get rules i ≡ Some e
      → s ≡ apply m e.left → t ≡ apply m e.right → Step rules s t
  in_left : {a b : Tree} (c : Tree) → Step rules a b → Step rules (op a c) (op b c)
  in_right : {a b : Tree} (c : Tree) → Step rules a b → Step rules (op c a) (op c b)

-- one rewriting, by a position
pub record StepAt (rules : List Equation) (s t : Tree) : Type 0 where
  pub position : List Side
  pub number : ℕ
  pub rule : Equation
  pub by : ℕ → Tree
  pub listed : slice_get rules number ≡ Some rule
  pub here : sub_at position s ≡ Some (apply by rule.left)
  pub there : t ≡ put_at position s (apply by rule.right)

-- a finite list of rewritings, perhaps empty
pub data Steps (rules : List Equation) : Tree → Tree → Type 0 where
  stop : (t : Tree) → Steps rules t t
  more : {s t u : Tree} → Step rules s t → Steps rules t u → Steps rules s u

-- both reduce to one term
pub record Joinable (rules : List Equation) (s t : Tree) : Type 0 where
  pub meet : Tree
  pub from_left : Steps rules s meet
  pub from_right : Steps rules t meet

-- the least equivalence that has the rewritings
pub data Convertible (rules : List Equation) : Tree → Tree → Type 0 where
  here : (t : Tree) → Convertible rules t t
  forth : {s t u : Tree} → Step rules s t → Convertible rules t u → Convertible rules s u
  back : {s t u : Tree} → Step rules t s → Convertible rules t u → Convertible rules s u

-- two rewritings of one term can be joined
abbrev pub IsLocallyConfluent : List Equation → Type 0
IsLocallyConfluent rules =
    (s a b : Tree) → Step rules s a → Step rules s b → Joinable rules a b
