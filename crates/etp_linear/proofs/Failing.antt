-- The first assignment at which a law fails, by the forms of its sides.
use Rattle.std.proofs.Common.{◌≡◌, ◌≢◌, ℕ, zero, suc, ◌*◌, ◌-◌, ◌^◌, ◌<◌, ◌≤◌, ◌⊎◌, inl, inr, refl, sym, ap, ap₂, ◌∙◌, subst, arith, true, false, Bool, cond, eqb, Option, None, Some, lit<}
use Rattle.std.specs.Prelude.{ℤ, pos, negsuc, ◌+ℤ◌, IsTrue}
use Rattle.std.specs.Int.{w128}
use Rattle.std.proofs.lemmas.Bool.{ltb-true}
use Rattle.std.proofs.lemmas.Int.{fits_signed_from_abs}
use Rattle.std.proofs.lemmas.Option.{same_Some}
use Rattle.etp_theory.specs.Trees.{Tree, Equation, ops, bound}
use Rattle.etp_theory.specs.Magmas.{meaning, Holds}
use Rattle.etp_forms.specs.Forms.{only}
use Rattle.etp_forms.proofs.Values as Forms
use Rattle.etp_linear.specs.Magmas.{LinearMagma, inside, reduced, times, IsLinearMagma}
use Rattle.etp_linear.specs.Values.{affine, one, coefficient_of, constant_of, HasNumbers}
use Rattle.etp_linear.specs.Failures.{point, IsBefore, IsFirstFailure}
use Rattle.etp_linear.specs.Walks.{CanAdd, CanTake, taken, IsFirstDifference, AreOne}
use Rattle.etp_linear.specs.declared.parts.Ring.{Ring}
use Rattle.etp_linear.specs.declared.parts.Ring.TheVariants.{Integers, Modulo}
use Rattle.etp_linear.specs.declared.parts.Form.{Form}
use Rattle.etp_linear.specs.declared.parts.LinearFailure.{LinearFailure}
use Rattle.etp_linear.proofs.Reductions.{reduced_inside, one_is}
use Rattle.etp_linear.proofs.Scalars.{zero_inside, linear, generate, by_coefficients}
use Rattle.etp_linear.proofs.Walks.{in_carrier, IsSmall, coefficient_small, constant_small, abs_sum}
use Rattle.etp_linear.proofs.Starts.{none_there, powers}

-- where two numbers of the carrier differ, its one is 1
one_there : (ring : Ring) (x y : ℤ) → IsTrue (inside ring x) → IsTrue (inside ring y) → x ≢ y → one ring ≡ pos 1
one_there Integers x y i j d = refl
one_there (Modulo m) (negsuc a) y i j d = absurd (cc)
one_there (Modulo m) (pos a) (negsuc b) i j d = absurd (cc)
one_there (Modulo zero) (pos a) (pos b) i j d = absurd (omega (arith, ltb-true a 0 i))
one_there (Modulo (suc zero)) (pos a) (pos b) i j d = absurd (d (ap pos (omega (arith, ltb-true a 1 i, ltb-true b 1 j))))
one_there (Modulo (suc (suc m))) (pos a) (pos b) i j d = sym (one_is (suc (suc m)) (λ e. cc) (λ e. absurd (omega (arith, e))))

sums_fit : (ring : Ring) (s : ℕ) (x y : ℤ) → s ≤ 5 → IsSmall ring s x → IsSmall ring s y → IsTrue (inside ring x) → IsTrue (inside ring y) → CanAdd ring x y
sums_fit Integers s x y h a b i j = fits_signed_from_abs w128 (x +ℤ y) (omega (arith, abs_sum x y, powers s (5 - s) (omega arith), double_fits))
  where
    double_fits : 2 * 3000000 ^ 5 < 2 ^ 127
    double_fits = lit< tt
sums_fit (Modulo m) s x y h a b i j = (i, j)

module _ (l : LinearMagma) (ok : IsLinearMagma l) where
  abbrev In : ℤ → Type 0
  In x = IsTrue (inside l.ring x)

  one_in : In (one l.ring)
  one_in = reduced_inside l.ring ok.modulus (pos 1)

  coefficient_in : (t : Tree) (v : ℕ) → In (coefficient_of l t v)
  coefficient_in t v = Forms.coefficient_inside (inside l.ring) (times l) (affine l) (linear l ok.modulus (in_carrier l.ring l.c ok.c_in_range)) t v (one l.ring) one_in

  constant_in : (t : Tree) → In (constant_of l t)
  constant_in t = Forms.constant_inside (inside l.ring) (times l) (affine l) (linear l ok.modulus (in_carrier l.ring l.c ok.c_in_range)) t

  -- the value of a form at a point can be made, and is the term's
  pub can_take : (t : Tree) (form : Form) (p : Option ℕ) → ops t ≤ 5 → HasNumbers l t form → ((v : ℕ) → p ≡ Some v → v < 8) → CanTake l.ring form p
  can_take t form None h numbers small = tt
  can_take t form (Some v) h numbers small =
      let k = small v refl in (
        k,
        subst (λ x. CanAdd l.ring x form.constant) (sym (numbers.coefficients v k)) (subst (CanAdd l.ring (coefficient_of l t v)) (sym numbers.constant)
            (sums_fit l.ring (ops t) _ _ h (coefficient_small l.ring l.a l.b l.c ok.a_in_range ok.b_in_range t v) (constant_small l.ring l.a l.b l.c ok.a_in_range ok.b_in_range ok.c_in_range t) (coefficient_in t v) (constant_in t))),
      )

  at_point : (t : Tree) (v : ℕ) → one l.ring ≡ pos 1 → meaning (times l) (point (Some v)) t ≡ reduced l.ring (coefficient_of l t v +ℤ constant_of l t)
  at_point t v e =
      ap (λ z. meaning (times l) (only (affine l) v z) t) (sym e)
      ∙ Forms.at_one (inside l.ring) (times l) (affine l) (linear l ok.modulus (in_carrier l.ring l.c ok.c_in_range)) v (one l.ring) one_in t

  at_zero : (t : Tree) → meaning (times l) (point None) t ≡ constant_of l t
  at_zero t = Forms.at_origin (inside l.ring) (times l) (affine l) (linear l ok.modulus (in_carrier l.ring l.c ok.c_in_range)) t

  taken_is : (t : Tree) (form : Form) (p : Option ℕ) → HasNumbers l t form → ((v : ℕ) → p ≡ Some v → v < 8) → ((v : ℕ) → p ≡ Some v → one l.ring ≡ pos 1) → taken l.ring form p ≡ meaning (times l) (point p) t
  taken_is t form None numbers small e = numbers.constant ∙ sym (at_zero t)
  taken_is t form (Some v) numbers small e = ap₂ (λ x y. reduced l.ring (x +ℤ y)) (numbers.coefficients v (small v refl)) numbers.constant ∙ sym (at_point t v (e v refl))

  point_in : (p : Option ℕ) → ((v : ℕ) → p ≡ Some v → one l.ring ≡ pos 1) → (v : ℕ) → In (point p v)
  point_in None e v = zero_inside l.ring ok.modulus
  point_in (Some u) e v = go (eqb v u)
    where
      go : (b : Bool) → In (cond b (pos 1) (pos 0))
      go true = subst In (e u refl) one_in
      go false = zero_inside l.ring ok.modulus

  module _ (e : Equation) (left right : Form) (left_few : bound e.left ≤ 8) (right_few : bound e.right ≤ 8) (of_left : HasNumbers l e.left left) (of_right : HasNumbers l e.right right) where
    pub holds : AreOne left right → Holds (inside l.ring) (times l) e.left e.right
    holds h =
        Forms.one_form_holds (inside l.ring) (times l) (affine l) (linear l ok.modulus (in_carrier l.ring l.c ok.c_in_range)) _ (generate l ok.modulus) e.left e.right
        ((by_coefficients l ok.modulus (in_carrier l.ring l.c ok.c_in_range) e.left e.right).1 (sym of_left.constant ∙ h.constants ∙ of_right.constant, λ v. each v (small_or v)))
      where
        small_or : (v : ℕ) → (v < 8) ⊎ (8 ≤ v)
        small_or v = grind arith

        each : (v : ℕ) → (v < 8) ⊎ (8 ≤ v) → coefficient_of l e.left v ≡ coefficient_of l e.right v
        each v (inl k) = sym (of_left.coefficients v k) ∙ h.coefficients v k ∙ of_right.coefficients v k
        each v (inr k) = none_there l ok e.left v (omega arith) ∙ sym (none_there l ok e.right v (omega arith))

    -- the one of the carrier is 1 where two coefficients differ
    one_where : (p : Option ℕ) → IsFirstDifference left right p → (v : ℕ) → p ≡ Some v → one l.ring ≡ pos 1
    one_where None d v q = absurd (cc)
    one_where (Some u) d v q =
        one_there l.ring (coefficient_of l e.left u) (coefficient_of l e.right u) (coefficient_in e.left u) (coefficient_in e.right u)
        (λ s. d.2 (of_left.coefficients u d.0 ∙ s ∙ sym (of_right.coefficients u d.0)))

    pub small_there : (p : Option ℕ) → IsFirstDifference left right p → (v : ℕ) → p ≡ Some v → v < 8
    small_there None d v q = absurd (cc)
    small_there (Some u) d v q = omega (arith, same_Some u v q, d.0)

    apart : (p : Option ℕ) → IsFirstDifference left right p → taken l.ring left p ≢ taken l.ring right p
    apart None d s = d s
    apart (Some v) d s =
        d.2 (of_left.coefficients v d.0 ∙ (linear l ok.modulus (in_carrier l.ring l.c ok.c_in_range)).cancelled _ _ _ (coefficient_in e.left v) (coefficient_in e.right v) (constant_in e.left)
        (sym (ap₂ (λ x y. reduced l.ring (x +ℤ y)) (of_left.coefficients v d.0) of_left.constant) ∙ s ∙ ap₂ (λ x y. reduced l.ring (x +ℤ y)) (of_right.coefficients v d.0) (sym d.1 ∙ of_left.constant))
        ∙ sym (of_right.coefficients v d.0))

    earlier : (p : Option ℕ) → IsFirstDifference left right p → (q : Option ℕ) → IsBefore q p → meaning (times l) (point q) e.left ≡ meaning (times l) (point q) e.right
    earlier None d None b = absurd b
    earlier None d (Some u) b = absurd b
    earlier (Some v) d None b = at_zero e.left ∙ sym of_left.constant ∙ d.1 ∙ of_right.constant ∙ sym (at_zero e.right)
    earlier (Some v) d (Some u) b =
        let o = one_where (Some v) d v refl in
        let k : u < 8 = omega (arith, d.0, b) in
        at_point e.left u o
        ∙ ap₂ (λ x y. reduced l.ring (x +ℤ y)) (sym (of_left.coefficients u k) ∙ d.3 u b ∙ of_right.coefficients u k) (sym of_left.constant ∙ d.1 ∙ of_right.constant)
        ∙ sym (at_point e.right u o)

    pub first : (f : LinearFailure) → IsFirstDifference left right f.variable → f.left ≡ taken l.ring left f.variable → f.right ≡ taken l.ring right f.variable → IsFirstFailure l e f
    first f d a b =
        let o = one_where f.variable d in
        let k = small_there f.variable d in
        record {
          assignment = point_in f.variable o;
          left_is = a ∙ taken_is e.left left f.variable of_left k o;
          right_is = b ∙ taken_is e.right right f.variable of_right k o;
          differ = λ s. apart f.variable d (sym a ∙ s ∙ b);
          before = earlier f.variable d;
        }

-- a law that fails at a point doesn't hold
pub fails : (l : LinearMagma) (e : Equation) (f : LinearFailure) → IsFirstFailure l e f → Holds (inside l.ring) (times l) e.left e.right → ⊥
fails l e f first h = first.differ (first.left_is ∙ h (point f.variable) first.assignment ∙ sym first.right_is)
