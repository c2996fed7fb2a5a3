-- One law from another by a line that cancels, and lines that are wrong.
use Rattle.std.specs.Prelude.{[], ◌∷◌}
use Rattle.etp_theory.specs.Trees.{var, op, Equation}
use Rattle.etp_cancel.specs.FiniteMagmas.{FiniteImplies}
use Rattle.etp_cancel.specs.Cancelling.{Cancel, by_cancel, IsRightCancel, IsFinitelyValid}

-- x = (y ◇ x) ◇ y
abbrev pub inner_first : Equation
inner_first = record { left = var 0; right = op (op (var 1) (var 0)) (var 1) }

-- x = y ◇ (x ◇ y)
abbrev pub outer_first : Equation
outer_first = record { left = var 0; right = op (var 1) (op (var 0) (var 1)) }

-- x is cancelled, with x ◇ y outside and y ◇ x inside
abbrev pub turn : Cancel
turn = record { line = 0; variable = 0; outer = op (var 0) (var 1); inner = op (var 1) (var 0) }

-- x ◇ y outside and inside
abbrev pub no_turn : Cancel
no_turn = record { line = 0; variable = 0; outer = op (var 0) (var 1); inner = op (var 0) (var 1) }

-- the line itself in place of the hypothesis
abbrev pub turn_by_itself : Cancel
turn_by_itself = record { line = 1; variable = 0; outer = op (var 0) (var 1); inner = op (var 1) (var 0) }

-- x and y exchanged
abbrev pub renamed_turn : Cancel
renamed_turn = record { line = 0; variable = 1; outer = op (var 1) (var 0); inner = op (var 0) (var 1) }

pub record CancelExamples : Type 0 where
  pub proved : IsFinitelyValid inner_first outer_first (by_cancel turn ∷ [])
  pub implied : FiniteImplies inner_first outer_first
  pub differs : IsRightCancel inner_first [] no_turn → ⊥
  pub not_itself : IsRightCancel inner_first [] turn_by_itself → ⊥
  -- the variables are those of the line, not those of a renamed one
  pub not_renamed : IsRightCancel inner_first [] renamed_turn → ⊥
