-- What a walk through a term adds to a form. No public clause cites it.
use Rattle.std.specs.Prelude.{◌≡◌, ◌≢◌, Option, None, Some, ℕ, ◌+◌, ◌*◌, ◌^◌, ◌<◌, ◌≤◌, ℤ, ◌+ℤ◌, ◌*ℤ◌, IsTrue, FitsSigned, unsigned_abs, length}
use Rattle.std.specs.Int.{w128}
use Rattle.etp_theory.specs.Trees.{Tree, ops, bound}
use Rattle.etp_linear.specs.Magmas.{LinearMagma, inside, reduced}
use Rattle.etp_linear.specs.Values.{coefficient_at, coefficient_of, constant_of}
use Rattle.etp_linear.specs.declared.parts.Ring.{Ring}
use Rattle.etp_linear.specs.declared.parts.Ring.TheVariants.{Integers, Modulo}
use Rattle.etp_linear.specs.declared.parts.Form.{Form}

-- the sum can be made
abbrev pub CanAdd : Ring → ℤ → ℤ → Type 0
CanAdd Integers x y = FitsSigned w128 (x +ℤ y)
CanAdd (Modulo m) x y = IsTrue (inside (Modulo m) x) × IsTrue (inside (Modulo m) y)

-- the product can be made
abbrev pub CanMultiply : Ring → ℤ → ℤ → Type 0
CanMultiply Integers x y = FitsSigned w128 (x *ℤ y)
CanMultiply (Modulo m) x y = IsTrue (inside (Modulo m) x) × IsTrue (inside (Modulo m) y)

-- over the integers there is room for so many operations more under the factor
abbrev pub HasRoom : Ring → ℕ → ℤ → ℤ → Type 0
HasRoom Integers n factor z = unsigned_abs z + unsigned_abs factor * 3000000 ^ n ≤ 3000000 ^ 5
HasRoom (Modulo m) n factor z = Unit {0}

pub record CanGain (l : LinearMagma) (t : Tree) (factor : ℤ) (form : Form) : Type 0 where
  pub variables : bound t ≤ 8
  pub factor_inside : IsTrue (inside l.ring factor)
  pub constant_inside : IsTrue (inside l.ring form.constant)
  pub each_inside : (v : ℕ) → v < 8 → IsTrue (inside l.ring (coefficient_at form v))
  pub constant_room : HasRoom l.ring (ops t) factor form.constant
  pub each_room : (v : ℕ) → v < 8 → HasRoom l.ring (ops t) factor (coefficient_at form v)

-- the form gains so much times that of the term
pub record Gains (l : LinearMagma) (t : Tree) (factor : ℤ) (old new : Form) : Type 0 where
  pub length_kept : length new.coefficients ≡ length old.coefficients
  pub constant : new.constant ≡ reduced l.ring (old.constant +ℤ factor *ℤ constant_of l t)
  pub coefficients : (v : ℕ) → v < 8
      → coefficient_at new v ≡ reduced l.ring (coefficient_at old v +ℤ factor *ℤ coefficient_of l t v)

-- the value of a form at a point can be made
abbrev pub CanTake : Ring → Form → Option ℕ → Type 0
CanTake ring form None = Unit {0}
CanTake ring form (Some v) = (v < 8) × CanAdd ring (coefficient_at form v) form.constant

-- the value of a form where all variables are zero, or the variable is 1 and all others are zero
abbrev pub taken : Ring → Form → Option ℕ → ℤ
taken ring form None = form.constant
taken ring form (Some v) = reduced ring (coefficient_at form v +ℤ form.constant)

-- the constants, or the coefficients of a variable where constants and earlier coefficients are equal
abbrev pub IsFirstDifference : Form → Form → Option ℕ → Type 0
IsFirstDifference p q None = p.constant ≢ q.constant
IsFirstDifference p q (Some v) =
    (v < 8) × (p.constant ≡ q.constant) × (coefficient_at p v ≢ coefficient_at q v)
    × ((u : ℕ) → u < v → coefficient_at p u ≡ coefficient_at q u)

pub record AreOne (p q : Form) : Type 0 where
  pub constants : p.constant ≡ q.constant
  pub coefficients : (v : ℕ) → v < 8 → coefficient_at p v ≡ coefficient_at q v
