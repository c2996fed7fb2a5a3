-- A walk through a term: what it may add, and what it has added.
use Rattle.std.proofs.Common.{◌≡◌, ◌≢◌, ℕ, zero, suc, ◌+◌, ◌*◌, ◌^◌, ◌<◌, ◌≤◌, refl, sym, ap, ap₂, ◌∙◌, subst, arith, true, false, Bool, cond, eqb, eq-eqb, mul-le-mul, mul-le-mul_left, mul-le-mul_right, pow-suc, lit<}
use Rattle.std.specs.Prelude.{ℤ, pos, negsuc, ◌+ℤ◌, ◌*ℤ◌, IsTrue, unsigned_abs, length}
use Rattle.std.specs.Int.{w128}
use Rattle.std.proofs.lemmas.Bool.{lt-ltb, eqb-true}
use Rattle.std.proofs.lemmas.Nat.{pow-add}
use Rattle.std.proofs.lemmas.Int.{unsigned_abs-mul, fits_signed_from_abs}
use Rattle.std.proofs.Math.IntN.{+ℤ_assoc, +ℤ_comm, +ℤ_idr, *ℤ-zero}
use borrow.Author.Differences.{ints}
use Rattle.etp_theory.specs.Trees.{Tree, var, op, ops}
use Rattle.etp_linear.specs.Magmas.{LinearMagma, inside, reduced, IsCoefficient, IsLinearMagma}
use Rattle.etp_linear.specs.Values.{one, coefficient_at, coefficient_of, constant_of}
use Rattle.etp_linear.specs.Walks.{CanAdd, CanMultiply, HasRoom, CanGain, Gains}
use Rattle.etp_linear.specs.declared.parts.Ring.{Ring}
use Rattle.etp_linear.specs.declared.parts.Ring.TheVariants.{Integers, Modulo}
use Rattle.etp_linear.specs.declared.parts.Form.{Form}
use Rattle.etp_linear.proofs.Integers.{times_sum, times_assoc}
use Rattle.etp_linear.proofs.Reductions.{reduced_inside, reduced_same, Alike, equal_alike, turned, joined, alike_self, alike_sum, alike_product}

-- ---- sizes over the integers

size_of : (z : ℤ) → IsCoefficient Integers z → unsigned_abs z ≤ 1000000
size_of z h = omega (arith, ints, h.at_least, h.at_most)

pub in_carrier : (ring : Ring) (z : ℤ) → IsCoefficient ring z → IsTrue (inside ring z)
in_carrier Integers z h = refl
in_carrier (Modulo m) (pos a) h = lt-ltb a m (omega (arith, ints, h.at_most))
in_carrier (Modulo m) (negsuc a) h = absurd (omega (arith, ints, h.at_least))

pub abs_sum : (x y : ℤ) → unsigned_abs (x +ℤ y) ≤ unsigned_abs x + unsigned_abs y
abs_sum x y = omega (arith, ints)

product_size : (f k : ℤ) → IsCoefficient Integers k → unsigned_abs (f *ℤ k) ≤ unsigned_abs f * 1000000
product_size f k h = omega (arith, unsigned_abs-mul f k, mul-le-mul_left (unsigned_abs f) (size_of k h))

pub limit_fits : 3000000 ^ 5 < 2 ^ 127
limit_fits = lit< tt

pub power : (n : ℕ) → 0 < 3000000 ^ n
power zero = lit< tt
power (suc n) = omega (arith, pow-suc 3000000 n, power n)

-- a factor under the operations of both parts and one more
record Spread (f s t z : ℕ) : Type 0 where
  whole : ℕ
  alone : f ≤ whole
  with_left : f * 3000000 ^ s ≤ whole
  with_right : f * 3000000 ^ t ≤ whole
  room : z + whole * 3000000 ≤ 3000000 ^ 5

spread_by : (f p q w z limit : ℕ) → 0 < p → 0 < q → w ≡ p * q * 3000000 → z + f * w ≤ limit → (f ≤ f * (p * q)) × (f * p ≤ f * (p * q)) × (f * q ≤ f * (p * q)) × (z + f * (p * q) * 3000000 ≤ limit)
spread_by f p q w z limit hp hq e h =
    let a : p * 1 ≤ p * q = mul-le-mul_left p hq in
    let b : 1 * q ≤ p * q = mul-le-mul_right q hp in
    (omega (arith, mul-le-mul_left f a, mul-le-mul_left f hp), omega (arith, mul-le-mul_left f a), omega (arith, mul-le-mul_left f b), omega (arith, ap (λ x. f * x) e))

spread : (f s t z : ℕ) → z + f * 3000000 ^ (s + t + 1) ≤ 3000000 ^ 5 → Spread f s t z
spread f s t z h =
    let r = spread_by f (3000000 ^ s) (3000000 ^ t) (3000000 ^ (s + t + 1)) z (3000000 ^ 5) (power _) (power _) (pow-add 3000000 (s + t) 1 ∙ ap (λ x. x * 3000000) (pow-add 3000000 s t)) h in
    record { whole = f * (3000000 ^ s * 3000000 ^ t); alone = r.0; with_left = r.1; with_right = r.2; room = r.3 }

left_sum : (f p w z y m limit : ℕ) → f ≤ w → f * p ≤ w → z + w * 3000000 ≤ limit → m ≤ f * 1000000 → y ≤ z + f * 1000000 → y + m * p ≤ limit
left_sum f p w z y m limit a b c d e = omega (arith, mul-le-mul_right p d)

right_sum : (f p q w z y x m k u limit : ℕ) → f ≤ w → f * p ≤ w → f * q ≤ w → z + w * 3000000 ≤ limit → m ≤ f * 1000000 → k ≤ f * 1000000 → y ≤ z + f * 1000000 → x ≤ p → u ≤ y + m * x → u + k * q ≤ limit
right_sum f p q w z y x m k u limit a b c d e g h i j = omega (arith, mul-le-mul e i, mul-le-mul_right q g)

-- what has been added so far is no more than the factor times a coefficient
abbrev HasGrown : Ring → ℤ → ℤ → ℤ → Type 0
HasGrown Integers f z y = unsigned_abs y ≤ unsigned_abs z + unsigned_abs f * 1000000
HasGrown (Modulo m) f z y = Unit {0}

abbrev pub IsSmall : Ring → ℕ → ℤ → Type 0
IsSmall Integers n x = unsigned_abs x ≤ 3000000 ^ n
IsSmall (Modulo m) n x = Unit {0}

left_room : (ring : Ring) (s t : ℕ) (f k z y : ℤ) → IsCoefficient ring k → HasRoom ring (s + t + 1) f z → HasGrown ring f z y → HasRoom ring s (reduced ring (f *ℤ k)) y
left_room Integers s t f k z y hk h g =
    let r = spread (unsigned_abs f) s t (unsigned_abs z) h in
    left_sum (unsigned_abs f) (3000000 ^ s) r.whole (unsigned_abs z) (unsigned_abs y) (unsigned_abs (f *ℤ k)) (3000000 ^ 5) r.alone r.with_left r.room (product_size f k hk) g
left_room (Modulo m) s t f k z y hk h g = tt

right_room : (ring : Ring) (s t : ℕ) (f j k z y x : ℤ) → IsCoefficient ring j → IsCoefficient ring k → HasRoom ring (s + t + 1) f z → HasGrown ring f z y → IsSmall ring s x → HasRoom ring t (reduced ring (f *ℤ k)) (reduced ring (y +ℤ reduced ring (f *ℤ j) *ℤ x))
right_room Integers s t f j k z y x hj hk h g i =
    let r = spread (unsigned_abs f) s t (unsigned_abs z) h in
    right_sum (unsigned_abs f) (3000000 ^ s) (3000000 ^ t) r.whole (unsigned_abs z) (unsigned_abs y) (unsigned_abs x) (unsigned_abs (f *ℤ j)) (unsigned_abs (f *ℤ k)) _ (3000000 ^ 5)
    r.alone r.with_left r.with_right r.room (product_size f j hj) (product_size f k hk) g i
    (omega (arith, abs_sum y ((f *ℤ j) *ℤ x), unsigned_abs-mul (f *ℤ j) x))
right_room (Modulo m) s t f j k z y x hj hk h g i = tt

unchanged : (ring : Ring) (f z : ℤ) → HasGrown ring f z z
unchanged Integers f z = omega arith
unchanged (Modulo m) f z = tt

constant_grown : (ring : Ring) (f c z : ℤ) → IsCoefficient ring c → HasGrown ring f z (reduced ring (z +ℤ reduced ring (f *ℤ c)))
constant_grown Integers f c z h = omega (arith, abs_sum z (f *ℤ c), product_size f c h)
constant_grown (Modulo m) f c z h = tt

pub can_multiply : (ring : Ring) (s t : ℕ) (f k z : ℤ) → IsTrue (inside ring f) → IsCoefficient ring k → HasRoom ring (s + t + 1) f z → CanMultiply ring f k
can_multiply Integers s t f k z i hk h =
    let r = spread (unsigned_abs f) s t (unsigned_abs z) h in
    fits_signed_from_abs w128 (f *ℤ k) (omega (arith, product_size f k hk, r.alone, r.room, limit_fits))
can_multiply (Modulo m) s t f k z i hk h = (i, in_carrier (Modulo m) k hk)

pub can_add_constant : (ring : Ring) → ring ≢ Modulo 0 → (s t : ℕ) (f c z : ℤ) → IsTrue (inside ring z) → IsCoefficient ring c → HasRoom ring (s + t + 1) f z → CanAdd ring z (reduced ring (f *ℤ c))
can_add_constant Integers n s t f c z i hc h =
    let r = spread (unsigned_abs f) s t (unsigned_abs z) h in
    fits_signed_from_abs w128 (z +ℤ f *ℤ c) (omega (arith, abs_sum z (f *ℤ c), product_size f c hc, r.alone, r.room, limit_fits))
can_add_constant (Modulo m) n s t f c z i hc h = (i, reduced_inside (Modulo m) n (f *ℤ c))

pub can_add : (ring : Ring) (f z : ℤ) → IsTrue (inside ring f) → IsTrue (inside ring z) → HasRoom ring 0 f z → CanAdd ring z f
can_add Integers f z i j h = fits_signed_from_abs w128 (z +ℤ f) (omega (arith, abs_sum z f, h, limit_fits))
can_add (Modulo m) f z i j h = (j, i)

small_sum : (p q x y z u : ℕ) → 0 < p → 0 < q → x ≤ 1000000 * p → y ≤ 1000000 * q → z ≤ 1000000 → u ≤ x + y + z → u ≤ p * q * 3000000
small_sum p q x y z u hp hq a b c d = omega (arith, mul-le-mul_left p hq, mul-le-mul_right q hp)

term_small : (a b c x y : ℤ) (s t : ℕ) → IsCoefficient Integers a → IsCoefficient Integers b → unsigned_abs c ≤ 1000000 → unsigned_abs x ≤ 3000000 ^ s → unsigned_abs y ≤ 3000000 ^ t → unsigned_abs (a *ℤ x +ℤ b *ℤ y +ℤ c) ≤ 3000000 ^ (s + t + 1)
term_small a b c x y s t ha hb hc i j =
    let e : 3000000 ^ (s + t + 1) ≡ 3000000 ^ s * 3000000 ^ t * 3000000 = pow-add 3000000 (s + t) 1 ∙ ap (λ w. w * 3000000) (pow-add 3000000 s t) in
    subst (λ w. unsigned_abs (a *ℤ x +ℤ b *ℤ y +ℤ c) ≤ w) (sym e)
    (small_sum (3000000 ^ s) (3000000 ^ t) (unsigned_abs (a *ℤ x)) (unsigned_abs (b *ℤ y)) (unsigned_abs c) _ (power _) (power _)
    (omega (arith, unsigned_abs-mul a x, mul-le-mul (size_of a ha) i)) (omega (arith, unsigned_abs-mul b y, mul-le-mul (size_of b hb) j)) hc
    (omega (arith, abs_sum (a *ℤ x +ℤ b *ℤ y) c, abs_sum (a *ℤ x) (b *ℤ y))))

cond_small : (b : Bool) → unsigned_abs (cond b (pos 1) (pos 0)) ≤ 1
cond_small true = omega arith
cond_small false = omega arith

pub coefficient_small : (ring : Ring) (a b c : ℤ) → IsCoefficient ring a → IsCoefficient ring b → (t : Tree) (v : ℕ) → IsSmall ring (ops t) (coefficient_of (record { ring = ring; a = a; b = b; c = c }) t v)
coefficient_small Integers a b c ha hb (var x) v = cond_small (eqb x v)
coefficient_small Integers a b c ha hb (op s t) v =
    let l : LinearMagma = record { ring = Integers; a = a; b = b; c = c } in
    let x = coefficient_of l s v in
    let y = coefficient_of l t v in
    let r = term_small a b (pos 0) x y (ops s) (ops t) ha hb (omega arith) (coefficient_small Integers a b c ha hb s v) (coefficient_small Integers a b c ha hb t v) in
    subst (λ z. unsigned_abs z ≤ 3000000 ^ (ops s + ops t + 1)) (+ℤ_idr (a *ℤ x +ℤ b *ℤ y)) r
coefficient_small (Modulo m) a b c ha hb t v = tt

pub constant_small : (ring : Ring) (a b c : ℤ) → IsCoefficient ring a → IsCoefficient ring b → IsCoefficient ring c → (t : Tree) → IsSmall ring (ops t) (constant_of (record { ring = ring; a = a; b = b; c = c }) t)
constant_small Integers a b c ha hb hc (var x) = omega arith
constant_small Integers a b c ha hb hc (op s t) =
    let l : LinearMagma = record { ring = Integers; a = a; b = b; c = c } in
    term_small a b c (constant_of l s) (constant_of l t) (ops s) (ops t) ha hb (size_of c hc) (constant_small Integers a b c ha hb hc s) (constant_small Integers a b c ha hb hc t)
constant_small (Modulo m) a b c ha hb hc t = tt

-- ---- the walk

-- the constant of an operation is added, and nothing else
pub record Began (l : LinearMagma) (f : ℤ) (old new : Form) : Type 0 where
  pub length_kept : length new.coefficients ≡ length old.coefficients
  pub coefficients : (v : ℕ) → coefficient_at new v ≡ coefficient_at old v
  pub constant : new.constant ≡ reduced l.ring (old.constant +ℤ reduced l.ring (f *ℤ l.c))

module _ (l : LinearMagma) (ok : IsLinearMagma l) where
  same : (z : ℤ) → Alike l.ring z z
  same z = equal_alike l.ring refl

  self : (z : ℤ) → Alike l.ring (reduced l.ring z) z
  self = alike_self l.ring ok.modulus

  is : {x y : ℤ} → x ≡ reduced l.ring y → Alike l.ring x y
  is {x = x} {y = y} e = joined (equal_alike l.ring e) (self y)

  pub can_left : (s t : Tree) (f to : ℤ) (old new : Form) → CanGain l (op s t) f old → Began l f old new → to ≡ reduced l.ring (f *ℤ l.a) → CanGain l s to new
  can_left s t f to old new can began e = record {
    variables = omega (arith, can.variables);
    factor_inside = subst (λ x. IsTrue (inside l.ring x)) (sym e) (reduced_inside l.ring ok.modulus (f *ℤ l.a));
    constant_inside = subst (λ x. IsTrue (inside l.ring x)) (sym began.constant) (reduced_inside l.ring ok.modulus _);
    each_inside = λ v h. subst (λ x. IsTrue (inside l.ring x)) (sym (began.coefficients v)) (can.each_inside v h);
    constant_room = subst (λ x. HasRoom l.ring (ops s) x new.constant) (sym e)
        (left_room l.ring (ops s) (ops t) f l.a old.constant new.constant ok.a_in_range can.constant_room (subst (HasGrown l.ring f old.constant) (sym began.constant) (constant_grown l.ring f l.c old.constant ok.c_in_range)));
    each_room = λ v h. subst (λ x. HasRoom l.ring (ops s) x (coefficient_at new v)) (sym e)
        (left_room l.ring (ops s) (ops t) f l.a (coefficient_at old v) (coefficient_at new v) ok.a_in_range (can.each_room v h) (subst (HasGrown l.ring f (coefficient_at old v)) (sym (began.coefficients v)) (unchanged l.ring f (coefficient_at old v))));
  }

  pub can_right : (s t : Tree) (f to on : ℤ) (old new then : Form) → CanGain l (op s t) f old → Began l f old new → to ≡ reduced l.ring (f *ℤ l.a) → Gains l s to new then → on ≡ reduced l.ring (f *ℤ l.b) → CanGain l t on then
  can_right s t f to on old new then can began e gains d = record {
    variables = omega (arith, can.variables);
    factor_inside = subst (λ x. IsTrue (inside l.ring x)) (sym d) (reduced_inside l.ring ok.modulus (f *ℤ l.b));
    constant_inside = subst (λ x. IsTrue (inside l.ring x)) (sym gains.constant) (reduced_inside l.ring ok.modulus _);
    each_inside = λ v h. subst (λ x. IsTrue (inside l.ring x)) (sym (gains.coefficients v h)) (reduced_inside l.ring ok.modulus _);
    constant_room =
        let room = right_room l.ring (ops s) (ops t) f l.a l.b old.constant new.constant (constant_of l s) ok.a_in_range ok.b_in_range can.constant_room (subst (HasGrown l.ring f old.constant) (sym began.constant) (constant_grown l.ring f l.c old.constant ok.c_in_range)) (constant_small l.ring l.a l.b l.c ok.a_in_range ok.b_in_range ok.c_in_range s) in
        moved on _ then.constant _ d (gains.constant ∙ ap (λ x. reduced l.ring (new.constant +ℤ x *ℤ constant_of l s)) e) room;
    each_room = λ v h.
        let room = right_room l.ring (ops s) (ops t) f l.a l.b (coefficient_at old v) (coefficient_at new v) (coefficient_of l s v) ok.a_in_range ok.b_in_range (can.each_room v h) (subst (HasGrown l.ring f (coefficient_at old v)) (sym (began.coefficients v)) (unchanged l.ring f (coefficient_at old v))) (coefficient_small l.ring l.a l.b l.c ok.a_in_range ok.b_in_range s v) in
        moved on _ (coefficient_at then v) _ d (gains.coefficients v h ∙ ap (λ x. reduced l.ring (coefficient_at new v +ℤ x *ℤ coefficient_of l s v)) e) room;
  }
    where
      moved : (x x' y y' : ℤ) → x ≡ x' → y ≡ y' → HasRoom l.ring (ops t) x' y' → HasRoom l.ring (ops t) x y
      moved x x' y y' p q h = subst (λ w. HasRoom l.ring (ops t) w y) (sym p) (subst (λ w. HasRoom l.ring (ops t) x' w) (sym q) h)

  -- what comes to a sum along both parts
  along : (f z y x w i j : ℤ) → Alike l.ring y (z +ℤ (f *ℤ l.a) *ℤ i) → Alike l.ring x (y +ℤ (f *ℤ l.b) *ℤ j) → w ≡ l.a *ℤ i +ℤ l.b *ℤ j → Alike l.ring x (z +ℤ f *ℤ w)
  along f z y x w i j p q e =
      joined q (joined (alike_sum ok.modulus p (same _)) (equal_alike l.ring
      (+ℤ_assoc z _ _ ∙ ap (λ u. z +ℤ u) (ap₂ (λ u v. u +ℤ v) (times_assoc f l.a i) (times_assoc f l.b j) ∙ sym (times_sum f (l.a *ℤ i) (l.b *ℤ j)) ∙ ap (λ u. f *ℤ u) (sym e)))))

  pub gained : (s t : Tree) (f to on : ℤ) (old new then end : Form) → Began l f old new → to ≡ reduced l.ring (f *ℤ l.a) → Gains l s to new then → on ≡ reduced l.ring (f *ℤ l.b) → Gains l t on then end → Gains l (op s t) f old end
  gained s t f to on old new then end began e first d second = record {
    length_kept = second.length_kept ∙ first.length_kept ∙ began.length_kept;
    constant =
        let i = constant_of l s in
        let j = constant_of l t in
        let p : Alike l.ring then.constant (new.constant +ℤ (f *ℤ l.a) *ℤ i) = joined (is first.constant) (alike_sum ok.modulus (same _) (alike_product ok.modulus (is e) (same i))) in
        let q : Alike l.ring end.constant (then.constant +ℤ (f *ℤ l.b) *ℤ j) = joined (is second.constant) (alike_sum ok.modulus (same _) (alike_product ok.modulus (is d) (same j))) in
        let b : Alike l.ring new.constant (old.constant +ℤ f *ℤ l.c) = joined (is began.constant) (alike_sum ok.modulus (same _) (self _)) in
        let r : Alike l.ring end.constant (new.constant +ℤ f *ℤ (l.a *ℤ i +ℤ l.b *ℤ j)) = along f new.constant then.constant end.constant _ i j p q refl in
        let w : Alike l.ring (constant_of l (op s t)) ((l.a *ℤ i +ℤ l.b *ℤ j) +ℤ l.c) =
        joined (self _) (alike_sum ok.modulus (joined (self _) (alike_sum ok.modulus (self _) (self _))) (same l.c)) in
        whole end.constant (joined r (joined (alike_sum ok.modulus b (same _)) (joined (equal_alike l.ring (rearranged old.constant f l.c (l.a *ℤ i +ℤ l.b *ℤ j))) (alike_sum ok.modulus (same old.constant) (alike_product ok.modulus (same f) (turned w)))))) (inner _ _ second.constant);
    coefficients = λ v h.
        let i = coefficient_of l s v in
        let j = coefficient_of l t v in
        let p : Alike l.ring (coefficient_at then v) (coefficient_at new v +ℤ (f *ℤ l.a) *ℤ i) = joined (is (first.coefficients v h)) (alike_sum ok.modulus (same _) (alike_product ok.modulus (is e) (same i))) in
        let q : Alike l.ring (coefficient_at end v) (coefficient_at then v +ℤ (f *ℤ l.b) *ℤ j) = joined (is (second.coefficients v h)) (alike_sum ok.modulus (same _) (alike_product ok.modulus (is d) (same j))) in
        let b : Alike l.ring (coefficient_at new v) (coefficient_at old v) = equal_alike l.ring (began.coefficients v) in
        let r : Alike l.ring (coefficient_at end v) (coefficient_at new v +ℤ f *ℤ (l.a *ℤ i +ℤ l.b *ℤ j)) = along f (coefficient_at new v) (coefficient_at then v) (coefficient_at end v) _ i j p q refl in
        let w : Alike l.ring (coefficient_of l (op s t) v) (l.a *ℤ i +ℤ l.b *ℤ j) = joined (self _) (alike_sum ok.modulus (self _) (self _)) in
        whole (coefficient_at end v) (joined r (alike_sum ok.modulus b (alike_product ok.modulus (same f) (turned w)))) (inner _ _ (second.coefficients v h));
  }
    where
      inner : (x y : ℤ) → x ≡ reduced l.ring y → IsTrue (inside l.ring x)
      inner x y p = subst (λ x. IsTrue (inside l.ring x)) (sym p) (reduced_inside l.ring ok.modulus y)

      whole : (x : ℤ) {y : ℤ} → Alike l.ring x y → IsTrue (inside l.ring x) → x ≡ reduced l.ring y
      whole x p i = sym (reduced_same l.ring x i) ∙ p.same

      rearranged : (z f c u : ℤ) → (z +ℤ f *ℤ c) +ℤ f *ℤ u ≡ z +ℤ f *ℤ (u +ℤ c)
      rearranged z f c u = +ℤ_assoc z (f *ℤ c) (f *ℤ u) ∙ ap (λ x. z +ℤ x) (+ℤ_comm (f *ℤ c) (f *ℤ u) ∙ sym (times_sum f u c))

  pub gained_var : (x : ℕ) (f : ℤ) (old new : Form) → CanGain l (var x) f old → length new.coefficients ≡ length old.coefficients → new.constant ≡ old.constant → coefficient_at new x ≡ reduced l.ring (coefficient_at old x +ℤ f) → ((v : ℕ) → v ≢ x → coefficient_at new v ≡ coefficient_at old v) → Gains l (var x) f old new
  gained_var x f old new can long e here others = record {
    length_kept = long;
    constant = e ∙ nothing old.constant can.constant_inside;
    coefficients = λ v h. at v h (eqb x v) refl;
  }
    where
      nothing : (z : ℤ) → IsTrue (inside l.ring z) → z ≡ reduced l.ring (z +ℤ f *ℤ pos 0)
      nothing z i = sym (ap (reduced l.ring) (ap (λ u. z +ℤ u) (*ℤ-zero f) ∙ +ℤ_idr z) ∙ reduced_same l.ring z i)

      at : (v : ℕ) → v < 8 → (b : Bool) → eqb x v ≡ b → coefficient_at new v ≡ reduced l.ring (coefficient_at old v +ℤ f *ℤ cond (eqb x v) (one l.ring) (pos 0))
      at v h true p =
          let q : v ≡ x = sym (eqb-true x v p) in
          ap (coefficient_at new) q ∙ here ∙ (alike_sum ok.modulus (equal_alike l.ring (ap (coefficient_at old) (sym q))) (turned (joined (alike_product ok.modulus (same f) (self (pos 1))) (equal_alike l.ring (omega (arith, ints)))))).same
          ∙ ap (λ b. reduced l.ring (coefficient_at old v +ℤ f *ℤ cond b (one l.ring) (pos 0))) (sym p)
      at v h false p =
          others v (λ q. let r = eq-eqb x v (sym q) in cc) ∙ nothing (coefficient_at old v) (can.each_inside v h)
          ∙ ap (λ b. reduced l.ring (coefficient_at old v +ℤ f *ℤ cond b (one l.ring) (pos 0))) (sym p)
