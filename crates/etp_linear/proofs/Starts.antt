-- A form that starts at zero becomes the term's form, and its value is the term's value.
use Rattle.std.proofs.Common.{◌≡◌, ℕ, zero, suc, ◌+◌, ◌-◌, ◌*◌, ◌^◌, ◌<◌, ◌≤◌, refl, sym, ap, ap₂, ◌∙◌, subst, arith, cond, ne_eqb, mul-le-mul_left, List, [], ◌∷◌, length, get_or, replicate}
use Rattle.std.specs.Prelude.{ℤ, pos, ◌+ℤ◌, ◌*ℤ◌, IsTrue}
use Rattle.std.proofs.lemmas.Nat.{pow-add}
use Rattle.std.proofs.lemmas.List.Elements.{All-from_get_or}
use Rattle.std.proofs.lemmas.List.{get_or-replicate}
use Rattle.std.proofs.Math.IntN.{+ℤ_assoc, +ℤ_comm}
use borrow.Author.Differences.{ints}
use Rattle.etp_theory.specs.Trees.{Tree, var, op, ops, bound}
use Rattle.etp_forms.specs.Forms.{coefficient, sum_to}
use Rattle.etp_forms.proofs.Values as Forms
use Rattle.etp_linear.specs.Magmas.{LinearMagma, inside, reduced, times, IsLinearMagma}
use Rattle.etp_linear.specs.Values.{affine, one, coefficient_at, coefficient_of, products, IsFormOf, HasNumbers}
use Rattle.etp_linear.specs.Walks.{HasRoom, CanGain, Gains}
use Rattle.etp_linear.specs.declared.parts.Ring.{Ring}
use Rattle.etp_linear.specs.declared.parts.Ring.TheVariants.{Integers, Modulo}
use Rattle.etp_linear.specs.declared.parts.Form.{Form}
use Rattle.etp_linear.proofs.Reductions.{reduced_inside, reduced_same, Alike, equal_alike, turned, joined, alike_self, alike_sum, alike_product}
use Rattle.etp_linear.proofs.Scalars.{zero_inside, linear, by_number}
use Rattle.etp_linear.proofs.Walks.{in_carrier, power}

-- nothing stands in the form yet
pub record IsEmpty (form : Form) : Type 0 where
  pub coefficients : (v : ℕ) → v < 8 → coefficient_at form v ≡ pos 0
  pub constant : form.constant ≡ pos 0

pub powers : (n k : ℕ) → n + k ≡ 5 → 3000000 ^ n ≤ 3000000 ^ 5
powers n k e = subst (λ m. 3000000 ^ n ≤ 3000000 ^ m) e (subst (λ w. 3000000 ^ n ≤ w) (sym (pow-add 3000000 n k)) (at_least (3000000 ^ n) (3000000 ^ k) (power k)))
  where
    at_least : (p q : ℕ) → 0 < q → p ≤ p * q
    at_least p q h = omega (arith, mul-le-mul_left p h)

start_room : (ring : Ring) (n : ℕ) → n ≤ 5 → HasRoom ring n (one ring) (pos 0)
start_room Integers n h = omega (arith, powers n (5 - n) (omega arith))
start_room (Modulo m) n h = tt

module _ (l : LinearMagma) (ok : IsLinearMagma l) where
  abbrev In : ℤ → Type 0
  In x = IsTrue (inside l.ring x)

  c_in : In l.c
  c_in = in_carrier l.ring l.c ok.c_in_range

  pub can_start : (t : Tree) (f : ℤ) (form : Form) → ops t ≤ 5 → bound t ≤ 8 → f ≡ one l.ring → IsEmpty form → CanGain l t f form
  can_start t f form h b e empty = record {
    variables = b;
    factor_inside = subst In (sym e) (reduced_inside l.ring ok.modulus (pos 1));
    constant_inside = subst In (sym empty.constant) (zero_inside l.ring ok.modulus);
    each_inside = λ v k. subst In (sym (empty.coefficients v k)) (zero_inside l.ring ok.modulus);
    constant_room = room form.constant empty.constant;
    each_room = λ v k. room (coefficient_at form v) (empty.coefficients v k);
  }
    where
      room : (z : ℤ) → z ≡ pos 0 → HasRoom l.ring (ops t) f z
      room z d = subst (λ x. HasRoom l.ring (ops t) x z) (sym e) (subst (HasRoom l.ring (ops t) (one l.ring)) (sym d) (start_room l.ring (ops t) h))

  pub started : (t : Tree) (f : ℤ) (old new : Form) → f ≡ one l.ring → IsEmpty old → Gains l t f old new → HasNumbers l t new
  started t f old new e empty gains = record {
    coefficients = λ v h. gains.coefficients v h ∙ once (coefficient_at old v) _ (empty.coefficients v h) (Forms.coefficient_inside (inside l.ring) (times l) (affine l) (linear l ok.modulus c_in) t v (one l.ring) (reduced_inside l.ring ok.modulus (pos 1)));
    constant = gains.constant ∙ once old.constant _ empty.constant (Forms.constant_inside (inside l.ring) (times l) (affine l) (linear l ok.modulus c_in) t);
  }
    where
      once : (z x : ℤ) → z ≡ pos 0 → In x → reduced l.ring (z +ℤ f *ℤ x) ≡ x
      once z x d i =
          ap₂ (λ y g. reduced l.ring (y +ℤ g *ℤ x)) d e
          ∙ (alike_sum ok.modulus (equal_alike l.ring {x = pos 0} refl) (alike_product ok.modulus (alike_self l.ring ok.modulus (pos 1)) (equal_alike l.ring {x = x} refl))).same
          ∙ ap (reduced l.ring) (omega (arith, ints)) ∙ reduced_same l.ring x i

  -- the variables that a term doesn't have
  pub none_there : (t : Tree) (v : ℕ) → bound t ≤ v → coefficient_of l t v ≡ pos 0
  none_there (var x) v h = ap (λ b. cond b (one l.ring) (pos 0)) (ne_eqb x v (omega arith))
  none_there (op s t) v h =
      ap₂ (λ x y. reduced l.ring (reduced l.ring (l.a *ℤ x) +ℤ reduced l.ring (l.b *ℤ y))) (none_there s v (omega arith)) (none_there t v (omega arith))
      ∙ ap₂ (λ x y. reduced l.ring (x +ℤ y)) (nothing l.a) (nothing l.b) ∙ reduced_same l.ring (pos 0) (zero_inside l.ring ok.modulus)
    where
      nothing : (k : ℤ) → reduced l.ring (k *ℤ pos 0) ≡ pos 0
      nothing k = ap (reduced l.ring) (omega (arith, ints)) ∙ reduced_same l.ring (pos 0) (zero_inside l.ring ok.modulus)

  sum_first : (n : ℕ) (g : ℕ → ℤ) → Alike l.ring (sum_to (affine l) (suc n) g) (g 0 +ℤ sum_to (affine l) n (λ v. g (v + 1)))
  sum_first zero g = joined (alike_self l.ring ok.modulus _) (equal_alike l.ring (+ℤ_comm (pos 0) (g 0)))
  sum_first (suc n) g =
      joined (alike_self l.ring ok.modulus _)
      (joined (alike_sum ok.modulus (sum_first n g) (equal_alike l.ring (ap g (omega arith))))
      (joined (equal_alike l.ring (+ℤ_assoc (g 0) (sum_to (affine l) n (λ v. g (v + 1))) (g (n + 1))))
      (alike_sum ok.modulus (equal_alike l.ring {x = g 0} refl) (turned (alike_self l.ring ok.modulus _)))))

  -- the sum over variables is the sum over the list of coefficients
  pub by_list : (ks : List ℤ) (g r : ℕ → ℤ) → ((v : ℕ) → v < length ks → Alike l.ring (g v) (get_or ks v (pos 0) *ℤ r v)) → Alike l.ring (sum_to (affine l) (length ks) g) (products ks r)
  by_list [] g r e = equal_alike l.ring refl
  by_list (k ∷ ks) g r e =
      joined (sum_first (length ks) g)
      (alike_sum ok.modulus (e 0 (omega arith)) (by_list ks (λ v. g (v + 1)) (λ v. r (v + 1)) (λ v h. later v (e (v + 1) (omega arith)))))
    where
      later : (v : ℕ) → Alike l.ring (g (v + 1)) (get_or (k ∷ ks) (v + 1) (pos 0) *ℤ r (v + 1)) → Alike l.ring (g (v + 1)) (get_or ks v (pos 0) *ℤ r (v + 1))
      later v p = let e : v + 1 ≡ suc v = omega arith in subst (λ x. Alike l.ring (g (v + 1)) (x *ℤ r (v + 1))) (ap (λ n. get_or (k ∷ ks) n (pos 0)) e) p

  pub form_value : (t : Tree) (form : Form) → bound t ≤ 8 → length form.coefficients ≡ 8 → HasNumbers l t form → IsFormOf l t form
  form_value t form b long numbers = record {
    value = λ r i.
        let n : bound t ≤ length form.coefficients = omega arith in
        let lin = linear l ok.modulus c_in in
        let sums : Alike l.ring (sum_to (affine l) (length form.coefficients) (λ v. coefficient (affine l) t v (r v))) (products form.coefficients r) =
        by_list form.coefficients (λ v. coefficient (affine l) t v (r v)) r (λ v h. at r i v h) in
        Forms.value (inside l.ring) (times l) (affine l) lin r i (length form.coefficients) t n
        ∙ (alike_sum ok.modulus sums (equal_alike l.ring (sym numbers.constant))).same;
    coefficients_inside = All-from_get_or In form.coefficients (pos 0) (λ v h. subst In (sym (numbers.coefficients v (omega arith))) (Forms.coefficient_inside (inside l.ring) (times l) (affine l) (linear l ok.modulus c_in) t v (one l.ring) (reduced_inside l.ring ok.modulus (pos 1))));
    constant_inside = subst In (sym numbers.constant) (Forms.constant_inside (inside l.ring) (times l) (affine l) (linear l ok.modulus c_in) t);
  }
    where
      at : (r : ℕ → ℤ) → ((v : ℕ) → In (r v)) → (v : ℕ) → v < length form.coefficients → Alike l.ring (coefficient (affine l) t v (r v)) (get_or form.coefficients v (pos 0) *ℤ r v)
      at r i v h = joined (equal_alike l.ring (by_number l ok.modulus t v (r v) (i v))) (joined (alike_self l.ring ok.modulus _) (equal_alike l.ring (ap (λ x. x *ℤ r v) (sym (numbers.coefficients v (omega arith))))))

-- a form of zeros is empty
pub zeros_empty : (form : Form) → form.coefficients ≡ replicate 8 (pos 0) → form.constant ≡ pos 0 → IsEmpty form
zeros_empty form e d = record { coefficients = λ v h. ap (λ ks. get_or ks v (pos 0)) e ∙ get_or-replicate 8 v (pos 0) (pos 0) h; constant = d }
