-- Variables numbered in the order in which they first come.
use Rattle.std.specs.Prelude.{◌≡◌, ℕ, ◌<◌, ◌≤◌, ◌⊎◌, max, Some}
use Rattle.etp_theory.specs.Trees.{Tree, var, op, Occurs, bound, leaves, renamed}
use Rattle.etp_theory.specs.Substitutions.{apply, Partial, total}
use Rattle.etp_theory.specs.FailingOverlaps.{KeepsApart}

-- from left to right each variable is one of the first `n`, one that came before, or the next one
abbrev pub GoesOn : ℕ → Tree → Type 0
GoesOn n (var v) = v ≤ n
GoesOn n (op l r) = GoesOn n l × GoesOn (max n (bound l)) r

-- so through the first term and then through the second
pub record IsNumbered (s t : Tree) : Type 0 where
  pub first : GoesOn 0 s
  pub second : GoesOn (bound s) t

-- the numbers below the count are given to variables, each to one of them
pub record AreNames (m : Partial) (count : ℕ) : Type 0 where
  pub number : (v : ℕ) (u : Tree) → m.value v ≡ Some u → (k : ℕ) × (k < count) × (u ≡ var k)
  pub one : (v w : ℕ) (u : Tree) → m.value v ≡ Some u → m.value w ≡ Some u → v ≡ w
  pub all : (k : ℕ) → k < count → (v : ℕ) × (m.value v ≡ Some (var k))

-- what has a number, and the term's variables, stand in one term of few leaves
pub record HasRoom (m : Partial) (t : Tree) : Type 0 where
  pub whole : Tree
  pub few : leaves whole ≤ 64
  pub named : (v : ℕ) (u : Tree) → m.value v ≡ Some u → Occurs v whole
  pub occurring : (v : ℕ) → Occurs v t → Occurs v whole

-- the term's variables that had no number got the next ones, as they come
pub record AreNoted (t : Tree) (earlier later : Partial) (before after : ℕ) : Type 0 where
  pub names : AreNames later after
  pub kept : (v : ℕ) (u : Tree) → earlier.value v ≡ Some u → later.value v ≡ Some u
  pub given : (v : ℕ) → Occurs v t → (u : Tree) × (later.value v ≡ Some u)
  pub others : (v : ℕ) (u : Tree) → later.value v ≡ Some u → (earlier.value v ≡ Some u) ⊎ Occurs v t
  pub in_order : GoesOn before (apply (total later) t)
  pub count : after ≡ max before (bound (apply (total later) t))

-- the variables of both terms stand in one term of few leaves
pub record HaveFewVariables (s t : Tree) : Type 0 where
  pub whole : Tree
  pub few : leaves whole ≤ 64
  pub first : (v : ℕ) → Occurs v s → Occurs v whole
  pub second : (v : ℕ) → Occurs v t → Occurs v whole

-- the same terms with other names for their variables, which are numbered as they come
pub record AreNumbered (s t s' t' : Tree) : Type 0 where
  pub by : ℕ → ℕ
  pub apart : KeepsApart by s t
  pub left : s' ≡ renamed by s
  pub right : t' ≡ renamed by t
  pub numbered : IsNumbered s' t'
  pub left_small : bound s' ≤ 64
  pub right_small : bound t' ≤ 64
