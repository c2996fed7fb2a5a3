-- The first assignment at which a law fails in a linear magma: all zero, else one variable 1 and all
-- others 0, the least such variable first.
use Rattle.std.specs.Prelude.{◌≡◌, ◌≢◌, ℕ, ◌<◌, ℤ, pos, IsTrue, cond, eqb, Option, None, Some}
use Rattle.etp_theory.specs.Trees.{Equation}
use Rattle.etp_theory.specs.Magmas.{meaning}
use Rattle.etp_linear.specs.Magmas.{LinearMagma, inside, times}
use Rattle.etp_linear.specs.declared.parts.LinearFailure.{LinearFailure}

-- all zero, or the variable 1 and all others 0
abbrev pub point : Option ℕ → ℕ → ℤ
point None v = pos 0
point (Some u) v = cond (eqb v u) (pos 1) (pos 0)

abbrev pub IsBefore : Option ℕ → Option ℕ → Type 0
IsBefore None None = ⊥
IsBefore None (Some v) = Unit {0}
IsBefore (Some u) None = ⊥
IsBefore (Some u) (Some v) = u < v

pub record IsFirstFailure (l : LinearMagma) (e : Equation) (f : LinearFailure) : Type 0 where
  pub assignment : (v : ℕ) → IsTrue (inside l.ring (point f.variable v))
  pub left_is : f.left ≡ meaning (times l) (point f.variable) e.left
  pub right_is : f.right ≡ meaning (times l) (point f.variable) e.right
  pub differ : f.left ≢ f.right
  pub before : (p : Option ℕ) → IsBefore p f.variable
      → meaning (times l) (point p) e.left ≡ meaning (times l) (point p) e.right
