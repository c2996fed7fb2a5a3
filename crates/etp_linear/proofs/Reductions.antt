-- Sums and products modulo a number.
use Rattle.std.proofs.Common.{◌≡◌, ◌≢◌, ℕ, zero, suc, ◌+◌, ◌*◌, ◌-◌, ◌/◌, ◌%◌, ◌<◌, refl, sym, ap, ap₂, ◌∙◌, arith, mod-lt, div-add-mod', mod-eq_of_lt, ◌≤◌}
use Rattle.std.specs.Prelude.{ℤ, pos, negsuc, ◌+ℤ◌, ◌*ℤ◌, IsTrue}
use Rattle.std.specs.Int.{int_rem_euclid}
use Rattle.std.proofs.lemmas.Bool.{ltb-true}
use Rattle.std.proofs.Math.Nat.{add-mul-mod_self_right}
use Rattle.std.proofs.Math.IntN.{neg_ℤ}
use borrow.Author.Differences.{up, down, same_in, same_out, sum_is_lem, product_is, neg_is, ints}
use Rattle.etp_linear.specs.Magmas.{inside, reduced}
use Rattle.etp_linear.specs.declared.parts.Ring.{Ring}
use Rattle.etp_linear.specs.declared.parts.Ring.TheVariants.{Integers, Modulo}
pub use Rattle.etp_linear.specs.Remainders.{some_modulus, left_inside, reduced_inside}
use Rattle.etp_linear.proofs.Integers.{times_comm, times_sum, sum_times, times_assoc}

down_multiple : (a q r m : ℕ) → q * m + r ≡ a → pos r ≡ pos a +ℤ neg_ℤ (pos q) *ℤ pos m
down_multiple a q r m e =
    let n = neg_is (pos q) in
    same_in _ _ (omega (arith, sum_is_lem (pos a) (neg_ℤ (pos q) *ℤ pos m), product_is (neg_ℤ (pos q)) (pos m), ap (λ k. k * m) n.0, ap (λ k. k * m) n.1))

up_multiple : (a q r m : ℕ) → q * m + r ≡ a → r < m → pos (m - 1 - r) ≡ negsuc a +ℤ pos (suc q) *ℤ pos m
up_multiple a q r m e h =
    same_in _ _ (omega (arith, sum_is_lem (negsuc a) (pos (suc q) *ℤ pos m)))

-- a number and what is left of it differ by a multiple of the modulus
left_over : (m : ℕ) → 0 < m → (z : ℤ) → (q : ℤ) × (int_rem_euclid z (pos m) ≡ z +ℤ q *ℤ pos m)
left_over m h (pos a) = (neg_ℤ (pos (a / m)), down_multiple a (a / m) (a % m) m (div-add-mod' a m))
left_over m h (negsuc a) = (pos (suc (a / m)), up_multiple a (a / m) (a % m) m (div-add-mod' a m) (mod-lt a h))

apart_up : (m a b k : ℕ) → a < m → pos a ≡ pos b +ℤ pos (suc k) *ℤ pos m → ⊥
apart_up m a b k h e = omega (arith, ap up e)

apart_down : (m a b k : ℕ) → b < m → pos a ≡ pos b +ℤ negsuc k *ℤ pos m → ⊥
apart_down m a b k h e = omega (arith, same_out _ _ e, sum_is_lem (pos b) (negsuc k *ℤ pos m), product_is (negsuc k) (pos m))

none_apart : (m a b : ℕ) → pos a ≡ pos b +ℤ pos zero *ℤ pos m → pos a ≡ pos b
none_apart m a b e = omega (arith, same_in, ap up e)

-- two numbers of the carrier that differ by a multiple of the modulus are one
one_left : (m : ℕ) (x y q : ℤ) → IsTrue (inside (Modulo m) x) → IsTrue (inside (Modulo m) y) → x ≡ y +ℤ q *ℤ pos m → x ≡ y
one_left m (negsuc a) y q i j e = absurd (cc)
one_left m (pos a) (negsuc b) q i j e = absurd (cc)
one_left m (pos a) (pos b) (pos zero) i j e = none_apart m a b e
one_left m (pos a) (pos b) (pos (suc k)) i j e = absurd (apart_up m a b k (ltb-true a m i) e)
one_left m (pos a) (pos b) (negsuc k) i j e = absurd (apart_down m a b k (ltb-true b m j) e)

negated : (x y : ℤ) → neg_ℤ x *ℤ y ≡ neg_ℤ (x *ℤ y)
negated x y =
    let n = neg_is x in
    same_in _ _ (omega (arith, product_is (neg_ℤ x) y, neg_is (x *ℤ y), product_is x y, ap (λ k. k * up y) n.0, ap (λ k. k * up y) n.1, ap (λ k. k * down y) n.0, ap (λ k. k * down y) n.1))

-- a multiple of the modulus changes nothing
moved : (m : ℕ) → 0 < m → (x y q : ℤ) → x ≡ y +ℤ q *ℤ pos m → int_rem_euclid x (pos m) ≡ int_rem_euclid y (pos m)
moved m h x y q e =
    let l = left_over m h x in
    let r = left_over m h y in
    one_left m _ _ (neg_ℤ r.0 +ℤ q +ℤ l.0) (left_inside m h x) (left_inside m h y)
    (l.1 ∙ omega (arith, ints, e, r.1, sum_times (neg_ℤ r.0 +ℤ q) l.0 (pos m), sum_times (neg_ℤ r.0) q (pos m), negated r.0 (pos m)))

pub reduced_same : (ring : Ring) (z : ℤ) → IsTrue (inside ring z) → reduced ring z ≡ z
reduced_same Integers z i = refl
reduced_same (Modulo m) (pos a) i = ap pos (mod-eq_of_lt (ltb-true a m i))
reduced_same (Modulo m) (negsuc a) i = absurd (cc)

-- two numbers that leave the same
pub record Alike (ring : Ring) (x y : ℤ) : Type 0 where
  pub same : reduced ring x ≡ reduced ring y

pub equal_alike : (ring : Ring) {x y : ℤ} → x ≡ y → Alike ring x y
equal_alike ring e = record { same = ap (reduced ring) e }

pub turned : {ring : Ring} {x y : ℤ} → Alike ring x y → Alike ring y x
turned e = record { same = sym e.same }

pub joined : {ring : Ring} {x y z : ℤ} → Alike ring x y → Alike ring y z → Alike ring x z
joined e f = record { same = e.same ∙ f.same }

pub alike_self : (ring : Ring) → ring ≢ Modulo 0 → (z : ℤ) → Alike ring (reduced ring z) z
alike_self ring n z = record { same = reduced_same ring (reduced ring z) (reduced_inside ring n z) }

-- alike numbers differ by a multiple
difference : (m : ℕ) → 0 < m → (x y : ℤ) → int_rem_euclid x (pos m) ≡ int_rem_euclid y (pos m) → (q : ℤ) × (x ≡ y +ℤ q *ℤ pos m)
difference m h x y e =
    let l = left_over m h x in
    let r = left_over m h y in
    (r.0 +ℤ neg_ℤ l.0, omega (arith, ints, e, l.1, r.1, sum_times r.0 (neg_ℤ l.0) (pos m), negated l.0 (pos m)))

sum_same : (ring : Ring) → ring ≢ Modulo 0 → (x x' y y' : ℤ) → reduced ring x ≡ reduced ring x' → reduced ring y ≡ reduced ring y' → reduced ring (x +ℤ y) ≡ reduced ring (x' +ℤ y')
sum_same Integers n x x' y y' e f = ap₂ (λ a b. a +ℤ b) e f
sum_same (Modulo m) n x x' y y' e f =
    let h = some_modulus m n in
    let p = difference m h x x' e in
    let q = difference m h y y' f in
    moved m h _ _ (p.0 +ℤ q.0) (omega (arith, ints, p.1, q.1, sum_times p.0 q.0 (pos m)))

scaled_same : (ring : Ring) → ring ≢ Modulo 0 → (x y y' : ℤ) → reduced ring y ≡ reduced ring y' → reduced ring (x *ℤ y) ≡ reduced ring (x *ℤ y')
scaled_same Integers n x y y' e = ap (λ b. x *ℤ b) e
scaled_same (Modulo m) n x y y' e =
    let h = some_modulus m n in
    let q = difference m h y y' e in
    moved m h _ _ (x *ℤ q.0) (ap (λ b. x *ℤ b) q.1 ∙ times_sum x y' (q.0 *ℤ pos m) ∙ ap (λ b. x *ℤ y' +ℤ b) (sym (times_assoc x q.0 (pos m))))

pub alike_sum : {ring : Ring} {x x' y y' : ℤ} → ring ≢ Modulo 0 → Alike ring x x' → Alike ring y y' → Alike ring (x +ℤ y) (x' +ℤ y')
alike_sum n e f = record { same = sum_same _ n _ _ _ _ e.same f.same }

pub alike_product : {ring : Ring} {x x' y y' : ℤ} → ring ≢ Modulo 0 → Alike ring x x' → Alike ring y y' → Alike ring (x *ℤ y) (x' *ℤ y')
alike_product {ring = ring} {x = x} {x' = x'} {y = y} {y' = y'} n e f =
    record { same = scaled_same ring n x y y' f.same ∙ ap (reduced ring) (times_comm x y') ∙ scaled_same ring n y' x x' e.same ∙ ap (reduced ring) (times_comm y' x') }

-- the number one, and a sum of two numbers below the modulus
pub one_is : (m : ℕ) → Modulo m ≢ Modulo 0 → m ≢ 1 → pos 1 ≡ reduced (Modulo m) (pos 1)
one_is zero n h = absurd (n refl)
one_is (suc zero) n h = absurd (h refl)
one_is (suc (suc m)) n h = ap pos (sym (mod-eq_of_lt (omega arith)))

pub mod_once : (s m : ℕ) → m ≤ s → s < m + m → s - m ≡ s % m
mod_once s m h k =
    let split : s ≡ (s - m) + 1 * m = omega arith in
    sym (ap (λ z. z % m) split ∙ add-mul-mod_self_right (s - m) 1 m ∙ mod-eq_of_lt (omega arith))
