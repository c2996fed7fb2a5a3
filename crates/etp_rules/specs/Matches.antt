-- The lowest rule that matches at the root of a term.
use Rattle.std.specs.Prelude.{◌≡◌, ℕ, ◌<◌, ◌≤◌, List, Some, slice_get}
use Rattle.etp_theory.specs.Trees.{Tree, ops, Equation}
use Rattle.etp_theory.specs.Substitutions.{apply}
use Rattle.etp_theory.specs.Strategy.{matcher, try_rules}
use Rattle.etp_term.specs.Terms.{tree_of}
use Rattle.etp_term.specs.declared.term.Term.{Term}

-- a side with what the variables of the pattern stand for in the term
abbrev pub instance : Term → Tree → Tree → Tree
instance pattern t side = apply (matcher (tree_of pattern) t) side

-- the rule is of the list, and what it gives is what the lowest matching rule gives
pub record IsLowestMatch (rules : List Equation) (rule : Equation) (t : Tree) : Type 0 where
  pub number : ℕ
  pub listed : slice_get rules number ≡ Some rule
  pub gives : try_rules rules t ≡ Some (apply (matcher rule.left t) rule.right)

-- the left side is no variable, and the right side has few operations
pub record IsUsable (rule : Equation) : Type 0 where
  pub reads : 0 < ops rule.left
  pub small : ops rule.right ≤ 12

abbrev pub AreUsable : List Equation → Type 0
AreUsable rules = (i : ℕ) (rule : Equation) → slice_get rules i ≡ Some rule → IsUsable rule
