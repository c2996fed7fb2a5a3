-- Walks at the limits: the widest term that has a form, one leaf more, and a walk without an end.
use Rattle.std.specs.Prelude.{◌≡◌, ℕ, zero, suc, [], ◌∷◌}
use Rattle.etp_theory.specs.Trees.{Tree, var, op, leaves, Equation}
use Rattle.etp_theory.specs.Forms.{IsFormOf, HasForm, PassesTermLimit, PassesStepLimit}
use Rattle.etp_theory.specs.FailingOverlaps.{term_limit, step_limit, IsFinding}
use Rattle.etp_theory.specs.Examples.{product}

-- x ◇ y = y ◇ x
abbrev pub commutative : Equation
commutative = record { left = op (var 0) (var 1); right = op (var 1) (var 0) }

-- the full term of 2 ^ k leaves, all of one variable
unfoldable pub full : ℕ → Tree
full zero = var 0
full (suc k) = op (full k) (full k)

-- one leaf more than 512
unfoldable pub too_wide : Tree
too_wide = op (full 9) (var 0)

pub record LimitExamples : Type 0 where
  pub full_leaves : leaves (full 9) ≡ 512
  pub wide_leaves : leaves too_wide ≡ 513
  -- a term of 512 leaves may have a form, and one of 513 passes the limit
  pub widest_form : IsFormOf [] (full 9) (full 9)
  pub one_more_leaf : PassesTermLimit [] too_wide
  pub no_wide_form : HasForm [] too_wide → ⊥
  -- x ◇ y, y ◇ x, x ◇ y and so on passes the other limit, after 100000 steps
  pub endless : (h : PassesStepLimit (commutative ∷ []) product) × (h.steps ≡ 100000)
  -- the limit that the left term passes is found, and not the right term's
  pub left_endless : IsFinding (commutative ∷ []) product too_wide step_limit
  pub left_endless_only : IsFinding (commutative ∷ []) product too_wide term_limit → ⊥
  pub left_wide : IsFinding (commutative ∷ []) too_wide product term_limit
  pub left_wide_only : IsFinding (commutative ∷ []) too_wide product step_limit → ⊥
