-- Small laws and systems, whose theorems are computed.
use Rattle.std.specs.Prelude.{◌≡◌, [], ◌∷◌, Some}
use Rattle.std.specs.declared.cmp.Ordering.TheVariants.{Less}
use Rattle.etp_theory.specs.Trees.{Tree, var, op, Equation}
use Rattle.etp_theory.specs.Orders.{law_cmp}
use Rattle.etp_theory.specs.Positions.{to_left}
use Rattle.etp_theory.specs.Sameness.{Same}
use Rattle.etp_theory.specs.Derivations.{Derives}
use Rattle.etp_theory.specs.Weights.{Weight}
use Rattle.etp_theory.specs.Strategy.{next, fired, normal_form}
use Rattle.etp_theory.specs.Overlaps.{Overlap, IsConvergent}
use Rattle.etp_theory.specs.FailingOverlaps.{place, two_forms, IsFirstFailing}
use Rattle.etp_theory.specs.Reach.{implies, refutes, Reach, Covers}

-- x ◇ x
abbrev pub square : Tree
square = op (var 0) (var 0)

-- x ◇ x = x
abbrev pub idempotent : Equation
idempotent = record { left = square; right = var 0 }

-- x ◇ y = x
abbrev pub left_projection : Equation
left_projection = record { left = op (var 0) (var 1); right = var 0 }

-- x ◇ y = y
abbrev pub right_projection : Equation
right_projection = record { left = op (var 0) (var 1); right = var 1 }

-- (x ◇ y) ◇ (y ◇ z) = y
abbrev pub central : Equation
central = record { left = op (op (var 0) (var 1)) (op (var 1) (var 2)); right = var 1 }

-- x ◇ y, and x ◇ ((x ◇ y) ◇ z)
abbrev pub product : Tree
product = op (var 0) (var 1)

abbrev pub long_product : Tree
long_product = op (var 0) (op (op (var 0) (var 1)) (var 2))

-- the number of operations, plus the weights of the variables
abbrev pub plain_weight : Weight
plain_weight = record { on_left = 1; on_right = 1; added = 1 }

pub record Examples : Type 0 where
  -- a renaming that isn't injective makes no laws the same
  pub not_same : Same left_projection idempotent → ⊥
  pub ordered : law_cmp idempotent left_projection ≡ Less
  -- of three redexes the one in the left part is first, and the root is last
  pub inner_first : next (idempotent ∷ []) (op square square) ≡ Some (op (var 0) square)
  pub inner_position : fired (idempotent ∷ []) (op square square)
      ≡ Some (record { number = 0; position = to_left ∷ []; to = op (var 0) square })
  -- of two rules at one place the first is used
  pub lowest_rule : next (left_projection ∷ right_projection ∷ []) (op (var 5) (var 6)) ≡ Some (var 5)
  pub computed : normal_form plain_weight (idempotent ∷ []) (op square square) ≡ var 0
  -- a rule doesn't overlap itself at its root, so x ◇ x → x has no overlap at all
  pub no_overlap : Overlap (idempotent ∷ []) → ⊥
  pub convergent : IsConvergent plain_weight (idempotent ∷ [])
  -- (x ◇ y) ◇ (y ◇ z) → y overlaps itself in its left part first, and there are two forms
  pub first_failing : (o : Overlap (central ∷ []))
      × (place o ≡ record { outer = 0; position = to_left ∷ []; inner = 0 })
      × IsFirstFailing o product long_product (two_forms product long_product)
  -- with x ◇ y → x after it, the overlap of the two at the root is first
  pub root_failing : (o : Overlap (central ∷ left_projection ∷ []))
      × (place o ≡ record { outer = 0; position = []; inner = 1 })
      × IsFirstFailing o (var 1) product (two_forms (var 1) (var 0))
  pub not_derived : Derives idempotent left_projection → ⊥
  -- the laws 4 and 5 are each other's dual
  pub dual_reached : Reach (1 ∷ 2 ∷ 3 ∷ 5 ∷ 4 ∷ []) (implies 4 3 ∷ []) 5 3
  -- by duals 4 implies 3 and doesn't imply 5, so 3 doesn't imply 5
  pub dual_covered : Covers (1 ∷ 2 ∷ 3 ∷ 5 ∷ 4 ∷ []) (implies 5 3 ∷ refutes (5 ∷ []) (4 ∷ []) ∷ []) 3 5
