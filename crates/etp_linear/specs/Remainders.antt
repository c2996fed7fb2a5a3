-- What is left modulo a number is of the carrier.
use Rattle.std.specs.Prelude.{◌≢◌, ℕ, zero, suc, ◌<◌, ◌-◌, ◌%◌, ℤ, pos, negsuc, IsTrue, refl}
use Rattle.std.specs.Int.{int_rem_euclid}
use Rattle.std.proofs.Common.{arith, mod-lt}
use Rattle.std.proofs.lemmas.Bool.{lt-ltb}
use Rattle.etp_linear.specs.Magmas.{inside, reduced}
use Rattle.etp_linear.specs.declared.parts.Ring.{Ring}
use Rattle.etp_linear.specs.declared.parts.Ring.TheVariants.{Integers, Modulo}

pub left_inside : (m : ℕ) → 0 < m → (z : ℤ) → IsTrue (inside (Modulo m) (int_rem_euclid z (pos m)))
left_inside m h (pos a) = lt-ltb (a % m) m (mod-lt a h)
left_inside m h (negsuc a) = lt-ltb (m - 1 - a % m) m (omega arith)

pub some_modulus : (m : ℕ) → Modulo m ≢ Modulo 0 → 0 < m
some_modulus zero n = absurd (n refl)
some_modulus (suc m) n = omega arith

pub reduced_inside : (ring : Ring) → ring ≢ Modulo 0 → (z : ℤ) → IsTrue (inside ring (reduced ring z))
reduced_inside Integers n z = refl
reduced_inside (Modulo m) n z = left_inside m (some_modulus m n) z
