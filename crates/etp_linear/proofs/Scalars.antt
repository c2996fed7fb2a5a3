-- Linear magmas have linear forms, whose coefficients are numbers.
use Rattle.std.proofs.Common.{◌≡◌, ◌≢◌, ℕ, zero, suc, refl, sym, ap, ◌∙◌, subst, arith, true, false, Bool, cond, eqb, List, [], ◌∷◌, Contains}
use Rattle.std.specs.Prelude.{ℤ, pos, negsuc, ◌+ℤ◌, ◌*ℤ◌, IsTrue, ◌↔◌}
use Rattle.std.proofs.lemmas.Bool.{lt-ltb}
use Rattle.std.proofs.Math.IntN.{neg_ℤ, +ℤ_assoc, +ℤ_comm, +ℤ_idr, +ℤ-neg_ℤ_cancel, zero-*ℤ}
use borrow.Author.Differences.{ints}
use Rattle.etp_theory.specs.Trees.{Tree, var, op}
use Rattle.etp_forms.specs.Forms.{coefficient, IsLinear, Spanned, is_origin, is_generator, is_sum, is_difference, Generate, HaveOneForm}
use Rattle.etp_linear.specs.Magmas.{LinearMagma, inside, reduced, times}
use Rattle.etp_linear.specs.Values.{affine, one, coefficient_of, constant_of}
use Rattle.etp_linear.specs.declared.parts.Ring.{Ring}
use Rattle.etp_linear.specs.declared.parts.Ring.TheVariants.{Integers, Modulo}
use Rattle.etp_linear.proofs.Integers.{times_sum, sum_times, times_assoc}
use Rattle.etp_linear.proofs.Reductions.{some_modulus, reduced_inside, reduced_same, Alike, equal_alike, turned, joined, alike_self, alike_sum, alike_product}

pub zero_inside : (ring : Ring) → ring ≢ Modulo 0 → IsTrue (inside ring (pos 0))
zero_inside Integers n = refl
zero_inside (Modulo m) n = lt-ltb 0 m (some_modulus m n)

module _ (l : LinearMagma) (n : l.ring ≢ Modulo 0) where
  same : (z : ℤ) → Alike l.ring z z
  same z = equal_alike l.ring refl

  self : (z : ℤ) → Alike l.ring (reduced l.ring z) z
  self = alike_self l.ring n

  pub linear : IsTrue (inside l.ring l.c) → IsLinear (inside l.ring) (times l) (affine l)
  linear c_inside = record {
    origin_inside = zero_inside l.ring n;
    added_inside = c_inside;
    plus_inside = λ x y i j. reduced_inside l.ring n (x +ℤ y);
    left_inside = λ x i. reduced_inside l.ring n (l.a *ℤ x);
    right_inside = λ x i. reduced_inside l.ring n (l.b *ℤ x);
    operation = λ x y i j. (turned (alike_sum n (joined (self (reduced l.ring (l.a *ℤ x) +ℤ reduced l.ring (l.b *ℤ y))) (alike_sum n (self (l.a *ℤ x)) (self (l.b *ℤ y)))) (same l.c))).same;
    associative = λ x y z i j k. (alike_sum n (self (x +ℤ y)) (same z)).same ∙ ap (reduced l.ring) (+ℤ_assoc x y z) ∙ (turned (alike_sum n (same x) (self (y +ℤ z)))).same;
    commutative = λ x y i j. ap (reduced l.ring) (+ℤ_comm x y);
    neutral = λ x i. ap (reduced l.ring) (+ℤ_idr x) ∙ reduced_same l.ring x i;
    cancelled = λ x y z i j k e.
        let f : Alike l.ring (x +ℤ z) (y +ℤ z) = record { same = e } in
        sym (reduced_same l.ring x i) ∙ ap (reduced l.ring) (sym (+ℤ-neg_ℤ_cancel x z)) ∙ (alike_sum n f (same (neg_ℤ z))).same ∙ ap (reduced l.ring) (+ℤ-neg_ℤ_cancel y z) ∙ reduced_same l.ring y j;
    left_additive = λ x y i j. scaled l.a x y;
    right_additive = λ x y i j. scaled l.b x y;
  }
    where
      scaled : (k x y : ℤ) → reduced l.ring (k *ℤ reduced l.ring (x +ℤ y)) ≡ reduced l.ring (reduced l.ring (k *ℤ x) +ℤ reduced l.ring (k *ℤ y))
      scaled k x y = (alike_product n (same k) (self (x +ℤ y))).same ∙ ap (reduced l.ring) (times_sum k x y) ∙ (turned (alike_sum n (self (k *ℤ x)) (self (k *ℤ y)))).same

  abbrev pub ones : List ℤ
  ones = one l.ring ∷ []

  abbrev In : ℤ → Type 0
  In = Spanned (inside l.ring) (affine l) ones

  naturals : (k : ℕ) → In (reduced l.ring (pos k))
  naturals zero = subst In (sym (reduced_same l.ring (pos 0) (zero_inside l.ring n))) is_origin
  naturals (suc k) =
      subst In ((alike_sum n (self (pos k)) (self (pos 1))).same ∙ ap (λ x. reduced l.ring (pos x)) (omega arith))
      (is_sum _ _ (naturals k) (is_generator (one l.ring) (0, omega arith, refl)))

  pub generate : Generate (inside l.ring) (affine l) ones
  generate = record {
    inside_too = λ x c. ones_inside x c;
    spanned = λ x i. spanned l.ring refl x i;
  }
    where
      ones_inside : (x : ℤ) → Contains ones x → IsTrue (inside l.ring x)
      ones_inside x (zero, h, e) = subst (λ y. IsTrue (inside l.ring y)) e (reduced_inside l.ring n (pos 1))
      ones_inside x (suc k, h, e) = absurd (omega arith)

      spanned : (ring : Ring) → l.ring ≡ ring → (x : ℤ) → IsTrue (inside l.ring x) → In x
      spanned ring e (pos k) i = subst In (reduced_same l.ring (pos k) i) (naturals k)
      spanned (Modulo m) e (negsuc k) i = absurd (subst (λ r. IsTrue (inside r (negsuc k)) → ⊥) (sym e) (λ j. cc) i)
      spanned Integers e (negsuc k) i =
          is_difference (negsuc k) (pos (suc k)) i
          (subst In (sym (ap (reduced l.ring) (omega (arith, ints)) ∙ reduced_same l.ring (pos 0) (zero_inside l.ring n))) is_origin)
          (subst In (ap (λ r. reduced r (pos (suc k))) e ∙ refl) (naturals (suc k)))

  pub by_coefficients : IsTrue (inside l.ring l.c) → (p q : Tree) → HaveOneForm (affine l) ones p q
      ↔ ((constant_of l p ≡ constant_of l q) × ((v : ℕ) → coefficient_of l p v ≡ coefficient_of l q v))
  by_coefficients c_inside p q = (
    λ h. (h.constants, λ v. h.coefficients v (one l.ring) (0, omega arith, refl)),
    λ h. record { constants = h.0; coefficients = λ v x c. there v x c (h.1 v) },
  )
    where
      there : (v : ℕ) (x : ℤ) → Contains ones x → coefficient_of l p v ≡ coefficient_of l q v → coefficient (affine l) p v x ≡ coefficient (affine l) q v x
      there v x (zero, h, e) f = subst (λ y. coefficient (affine l) p v y ≡ coefficient (affine l) q v y) e f
      there v x (suc k, h, e) f = absurd (omega arith)

  -- the coefficient of a variable is a number times the variable's value
  pub by_number : (t : Tree) (v : ℕ) (z : ℤ) → IsTrue (inside l.ring z) → coefficient (affine l) t v z ≡ reduced l.ring (coefficient_of l t v *ℤ z)
  by_number (var x) v z i = go (eqb x v)
    where
      go : (b : Bool) → cond b z (pos 0) ≡ reduced l.ring (cond b (one l.ring) (pos 0) *ℤ z)
      go true = sym ((alike_product n (self (pos 1)) (same z)).same ∙ ap (reduced l.ring) (omega (arith, ints)) ∙ reduced_same l.ring z i)
      go false = sym (ap (reduced l.ring) (zero-*ℤ z) ∙ reduced_same l.ring (pos 0) (zero_inside l.ring n))
  by_number (op s t) v z i =
      let cs = coefficient_of l s v in
      let ct = coefficient_of l t v in
      let es : Alike l.ring (coefficient (affine l) s v z) (cs *ℤ z) = joined (equal_alike l.ring (by_number s v z i)) (self (cs *ℤ z)) in
      let et : Alike l.ring (coefficient (affine l) t v z) (ct *ℤ z) = joined (equal_alike l.ring (by_number t v z i)) (self (ct *ℤ z)) in
      let left : Alike l.ring (reduced l.ring (l.a *ℤ coefficient (affine l) s v z)) (l.a *ℤ cs *ℤ z) =
      joined (self _) (joined (alike_product n (same l.a) es) (equal_alike l.ring (sym (times_assoc l.a cs z)))) in
      let right : Alike l.ring (reduced l.ring (l.b *ℤ coefficient (affine l) t v z)) (l.b *ℤ ct *ℤ z) =
      joined (self _) (joined (alike_product n (same l.b) et) (equal_alike l.ring (sym (times_assoc l.b ct z)))) in
      let both : Alike l.ring (coefficient_of l (op s t) v) (l.a *ℤ cs +ℤ l.b *ℤ ct) = joined (self _) (alike_sum n (self _) (self _)) in
      (joined (joined (alike_sum n left right) (equal_alike l.ring (sym (sum_times (l.a *ℤ cs) (l.b *ℤ ct) z)))) (turned (alike_product n both (same z)))).same
