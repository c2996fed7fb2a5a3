-- Rules whose steps, weights and overlaps are computed.
use Rattle.std.specs.Prelude.{◌≡◌, ℕ, [], ◌∷◌, Some}
use Rattle.etp_theory.specs.Trees.{var, op, Equation}
use Rattle.etp_theory.specs.Positions.{to_left, to_right}
use Rattle.etp_theory.specs.Rewriting.{Convertible}
use Rattle.etp_theory.specs.Weights.{Weight, coefficient, constant}
use Rattle.etp_theory.specs.Strategy.{next, fired}
use Rattle.etp_theory.specs.Overlaps.{HasSmallVariables, IsConvergent}
use Rattle.etp_theory.specs.Examples.{idempotent, left_projection}

-- (x ◇ y) ◇ z = x ◇ (y ◇ z)
abbrev pub associative : Equation
associative = record {
  left = op (op (var 0) (var 1)) (var 2);
  right = op (var 0) (op (var 1) (var 2));
}

-- twice the weight of the left part, once that of the right part, and one more
abbrev pub left_weight : Weight
left_weight = record { on_left = 2; on_right = 1; added = 1 }

-- v ◇ v = v, with the variable of that number
abbrev pub idempotent_at : ℕ → Equation
idempotent_at v = record { left = op (var v) (var v); right = var v }

pub record RuleExamples : Type 0 where
  -- of a redex in the right part and one at the root the one in the right part is first
  pub right_part_first : next (left_projection ∷ []) (op (var 5) (op (var 6) (var 7)))
      ≡ Some (op (var 5) (var 6))
  pub right_position : fired (left_projection ∷ []) (op (var 5) (op (var 6) (var 7)))
      ≡ Some (record { number = 0; position = to_right ∷ []; to = op (var 5) (var 6) })
  -- the place counts before the rule: the second rule in a part, and not the first at the root
  pub place_before_rule : fired (associative ∷ idempotent ∷ []) (op (op (var 5) (var 5)) (var 6))
      ≡ Some (record { number = 1; position = to_left ∷ []; to = op (var 5) (var 6) })
  -- two terms with one reduct, which neither reduces to the other
  pub backward : Convertible (left_projection ∷ []) (op (var 0) (var 1)) (op (var 0) (var 2))
  -- the weight of the left part counts twice
  pub left_constant : constant left_weight associative.left ≡ 3
  pub right_constant : constant left_weight associative.right ≡ 2
  pub left_coefficient : coefficient left_weight associative.left 0 ≡ 4
  pub right_coefficient : coefficient left_weight associative.right 0 ≡ 2
  -- it lowers this weight and overlaps itself in its left part, with one form
  pub associative_convergent : IsConvergent left_weight (associative ∷ [])
  -- a rule's variables are those below 64
  pub variable_63 : HasSmallVariables (idempotent_at 63 ∷ [])
  pub no_variable_64 : HasSmallVariables (idempotent_at 64 ∷ []) → ⊥
