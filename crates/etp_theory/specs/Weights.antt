-- Linear weights of terms, and rules that lower every weight.
use Rattle.std.specs.Prelude.{◌≡◌, ℕ, zero, suc, ◌+◌, ◌*◌, ◌<◌, ◌≤◌, cond, eqb, List, Some, slice_get}
use Rattle.etp_theory.specs.Trees.{Tree, var, op, Equation}

-- the weight of an operation: so much times that of its left part, so much times that of its
-- right part, and so much more
pub record Weight : Type 0 where
  pub on_left : ℕ
  pub on_right : ℕ
  pub added : ℕ

-- how often the weight counts the variable
abbrev pub coefficient : Weight → Tree → ℕ → ℕ
coefficient w (var v) x = cond (eqb v x) 1 0
coefficient w (op l r) x = w.on_left * coefficient w l x + w.on_right * coefficient w r x

-- the part of the weight that no variable changes
abbrev pub constant : Weight → Tree → ℕ
constant w (var v) = 0
constant w (op l r) = w.on_left * constant w l + w.on_right * constant w r + w.added

-- the weight of a term where each variable has a value
abbrev pub weigh : Weight → (ℕ → ℕ) → Tree → ℕ
weigh w f (var v) = f v
weigh w f (op l r) = w.on_left * weigh w f l + w.on_right * weigh w f r + w.added

-- the sum of what the numbers below `n` give
abbrev pub sum_to : ℕ → (ℕ → ℕ) → ℕ
sum_to zero g = 0
sum_to (suc n) g = sum_to n g + g n

-- no coefficient is smaller on the left than on the right, and the left constant is greater
pub record IsDecreasing (w : Weight) (e : Equation) : Type 0 where
  pub coefficients : (x : ℕ) → coefficient w e.right x ≤ coefficient w e.left x
  pub constants : constant w e.right < constant w e.left

pub record AllDecrease (w : Weight) (rules : List Equation) : Type 0 where
  pub left_counts : 0 < w.on_left
  pub right_counts : 0 < w.on_right
  pub each : (i : ℕ) (e : Equation) → slice_get rules i ≡ Some e → IsDecreasing w e
