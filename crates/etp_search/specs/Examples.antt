-- Small searches by x = x ◇ y, whose parts are computed.
use Rattle.std.specs.Prelude.{◌≡◌, true, false, [], ◌∷◌}
use Rattle.std.specs.declared.cmp.Ordering.TheVariants.{Less}
use Rattle.etp_theory.specs.Trees.{Tree, var, op, Equation}
use Rattle.etp_theory.specs.Positions.{to_left}
use Rattle.etp_theory.specs.Proofs.{ProofStep}
use Rattle.etp_search.specs.Spaces.{Space, IsSearchTerm, IsStepOf, AreNeighbours, IsWithin, AreMoreThan}
use Rattle.etp_search.specs.Shortest.{term_cmp, IsFirstPlace, AreLeastSteps, IsUndecided, IsReached}

-- x ◇ x
abbrev pub square : Tree
square = op (var 0) (var 0)

-- x = x ◇ y
abbrev pub left_law : Equation
left_law = record { left = var 0; right = op (var 0) (var 1) }

-- x = x
abbrev pub reflexive : Equation
reflexive = record { left = var 0; right = var 0 }

-- x = x ◇ x
abbrev pub idempotence : Equation
idempotence = record { left = var 0; right = square }

-- terms in x alone of at most two leaves
abbrev pub small : Space
small = record { law = left_law; variables = 1; leaves = 2 }

-- x to x ◇ x
abbrev pub to_square : ProofStep
to_square = record { to = square; line = 0; cited = false; reversed = false; position = [] }

pub record SearchExamples : Type 0 where
  pub two_leaves : IsSearchTerm small square
  pub three_leaves : IsSearchTerm small (op (var 0) square) → ⊥
  pub other_variable : IsSearchTerm small (var 1) → ⊥
  -- a step and the same one reversed
  pub forth : AreNeighbours small (var 0) square
  pub back : AreNeighbours small square (var 0)
  pub inside : IsStepOf left_law (op (var 0) (var 2)) (op square (var 2))
  pub to_another : IsStepOf left_law (var 0) (var 1) → ⊥
  -- how far from the end
  pub at_end : IsWithin small square 0 square
  pub one_step : IsWithin small square 1 (var 0)
  pub no_step : IsWithin small square 0 (var 0) → ⊥
  -- an end that is too wide has nothing within any steps of it
  pub wide_end : IsWithin small (op (var 0) square) 0 (op (var 0) square) → ⊥
  -- by leaves, then by shape, then by word
  pub fewer_leaves : term_cmp (var 5) square ≡ Less
  pub left_leaf : term_cmp (op (var 5) square) (op square (var 0)) ≡ Less
  pub smaller_word : term_cmp (op (var 0) (var 1)) (op (var 1) (var 0)) ≡ Less
  -- the root before the left part, and forwards before reversed
  pub root_first : IsFirstPlace reflexive square square [] false
  pub left_later : IsFirstPlace reflexive square square (to_left ∷ []) false → ⊥
  pub reversed_later : IsFirstPlace reflexive square square [] true → ⊥
  -- x = x ◇ x by one step
  pub idempotent : AreLeastSteps small square 1 (var 0) (to_square ∷ [])
  pub no_longer : AreLeastSteps small square 1 (var 0) [] → ⊥
  -- one term is more than none, and isn't more than one
  pub more_than_none : AreMoreThan 0 (IsWithin small square 0)
  pub not_more_than_one : AreMoreThan 1 (IsWithin small square 0) → ⊥
  -- no step doesn't decide, one does
  pub one_is_reached : IsReached small idempotence 1
  pub one_decides : IsUndecided small idempotence 1 → ⊥
