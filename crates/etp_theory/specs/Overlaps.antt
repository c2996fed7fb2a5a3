-- Overlaps of rules and their critical pairs (Knuth and Bendix 1970, Huet 1980).
use Rattle.std.specs.Prelude.{◌≡◌, ℕ, ◌≤◌, List, [], Some, slice_get}
use Rattle.etp_theory.specs.Trees.{Tree, op, bound, Equation}
use Rattle.etp_theory.specs.Substitutions.{apply, Partial, total, raise}
use Rattle.etp_theory.specs.Positions.{Side, sub_at, put_at}
use Rattle.etp_theory.specs.Rewriting.{Joinable}
use Rattle.etp_theory.specs.Weights.{Weight, AllDecrease}
use Rattle.etp_theory.specs.Unifiers.{IsMostGeneralPartial, IsBest, NoUnifier}
use Rattle.etp_theory.specs.Forms.{HaveOneForm}

-- an outer rule, an operation at a position of its left side, and an inner rule;
-- the root of a rule with the rule itself is left out
pub record Overlap (rules : List Equation) : Type 0 where
  pub outer : ℕ
  pub inner : ℕ
  pub outer_rule : Equation
  pub inner_rule : Equation
  pub position : List Side
  pub part_left : Tree
  pub part_right : Tree
  pub outer_listed : slice_get rules outer ≡ Some outer_rule
  pub inner_listed : slice_get rules inner ≡ Some inner_rule
  pub part : sub_at position outer_rule.left ≡ Some (op part_left part_right)
  pub apart : position ≡ [] → outer ≡ inner → ⊥

-- the part of the outer rule's left side that is overlapped
abbrev pub outer_part : {rules : List Equation} → Overlap rules → Tree
outer_part o = op o.part_left o.part_right

-- the inner rule's left side, its variables raised
abbrev pub inner_part : {rules : List Equation} → Overlap rules → Tree
inner_part o = raise o.inner_rule.left

-- the outer rule used
abbrev pub left_result : {rules : List Equation} → Overlap rules → (ℕ → Tree) → Tree
left_result o m = apply m o.outer_rule.right

-- the inner rule used at the position
abbrev pub right_result : {rules : List Equation} → Overlap rules → (ℕ → Tree) → Tree
right_result o m =
    put_at o.position (apply m o.outer_rule.left) (apply m (raise o.inner_rule.right))

-- every unifier of every overlap has joinable results
abbrev pub PairsJoin : List Equation → Type 0
PairsJoin rules = (o : Overlap rules) (m : ℕ → Tree)
    → apply m (outer_part o) ≡ apply m (inner_part o)
    → Joinable rules (left_result o m) (right_result o m)

-- raising a rule's variables keeps them apart from all others
abbrev pub HasSmallVariables : List Equation → Type 0
HasSmallVariables rules = (i : ℕ) (e : Equation) → slice_get rules i ≡ Some e
    → (bound e.left ≤ 64) × (bound e.right ≤ 64)

-- every most general unifier of every overlap has two results with one normal form
pub record IsConvergent (w : Weight) (rules : List Equation) : Type 0 where
  pub decreasing : AllDecrease w rules
  pub small : HasSmallVariables rules
  pub pairs : (o : Overlap rules) (m : Partial)
      → IsMostGeneralPartial m (outer_part o) (inner_part o)
      → HaveOneForm rules (left_result o (total m)) (right_result o (total m))

-- what a checker finds at one overlap: no unifier, or one best one whose two results have one form
pub data PairPasses (rules : List Equation) (o : Overlap rules) : Type 0 where
  no_unifier : NoUnifier (outer_part o) (inner_part o) → PairPasses rules o
  one_form : (m : ℕ → Tree) → IsBest m (outer_part o) (inner_part o)
      → HaveOneForm rules (left_result o m) (right_result o m) → PairPasses rules o
