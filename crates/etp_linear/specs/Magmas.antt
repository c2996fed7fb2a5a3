-- Linear magmas: x ◇ y = a x + b y + c over the integers, or over the integers modulo a number.
use Rattle.std.specs.Prelude.{◌≢◌, ◌≡◌, ℤ, pos, negsuc, ◌+ℤ◌, ◌-ℤ◌, ◌*ℤ◌, ◌≤ℤ◌, Bool, true, false, nat_lt}
use Rattle.std.specs.Int.{int_rem_euclid}
use Rattle.etp_linear.specs.declared.parts.Ring.{Ring}
use Rattle.etp_linear.specs.declared.parts.Ring.TheVariants.{Integers, Modulo}
use Rattle.etp_linear.specs.declared.parts.Which.{Which}
use Rattle.etp_linear.specs.declared.parts.Which.TheVariants.{Modulus, A, B, C}

pub record LinearMagma : Type 0 where
  pub ring : Ring
  pub a : ℤ
  pub b : ℤ
  pub c : ℤ

-- the carrier: all integers, or 0 to m - 1
abbrev pub inside : Ring → ℤ → Bool
inside Integers z = true
inside (Modulo m) (pos n) = nat_lt n m
inside (Modulo m) (negsuc n) = false

-- the integer itself, or what division by the modulus leaves of it
abbrev pub reduced : Ring → ℤ → ℤ
reduced Integers z = z
reduced (Modulo m) z = int_rem_euclid z (pos m)

-- the operation
abbrev pub times : LinearMagma → ℤ → ℤ → ℤ
times l x y = reduced l.ring (l.a *ℤ x +ℤ l.b *ℤ y +ℤ l.c)

abbrev pub least : Ring → ℤ
least Integers = negsuc 999999
least (Modulo m) = pos 0

abbrev pub greatest : Ring → ℤ
greatest Integers = pos 1000000
greatest (Modulo m) = pos m -ℤ pos 1

-- a, b and c are from -1000000 to 1000000 over the integers, and from 0 to m - 1 modulo m
pub record IsCoefficient (ring : Ring) (z : ℤ) : Type 0 where
  pub at_least : least ring ≤ℤ z
  pub at_most : z ≤ℤ greatest ring

pub record IsLinearMagma (l : LinearMagma) : Type 0 where
  pub modulus : l.ring ≢ Modulo 0
  pub a_in_range : IsCoefficient l.ring l.a
  pub b_in_range : IsCoefficient l.ring l.b
  pub c_in_range : IsCoefficient l.ring l.c

-- the first of modulus, a, b and c that is out of range, with its value
abbrev pub IsFirstOutOfRange : LinearMagma → Which → ℤ → Type 0
IsFirstOutOfRange l Modulus value = (l.ring ≡ Modulo 0) × (value ≡ pos 0)
IsFirstOutOfRange l A value = (l.ring ≢ Modulo 0) × (IsCoefficient l.ring l.a → ⊥) × (value ≡ l.a)
IsFirstOutOfRange l B value =
    (l.ring ≢ Modulo 0) × IsCoefficient l.ring l.a × (IsCoefficient l.ring l.b → ⊥) × (value ≡ l.b)
IsFirstOutOfRange l C value =
    (l.ring ≢ Modulo 0) × IsCoefficient l.ring l.a × IsCoefficient l.ring l.b × (IsCoefficient l.ring l.c → ⊥)
    × (value ≡ l.c)
