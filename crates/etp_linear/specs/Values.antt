-- The linear form of a term's value.
use Rattle.std.specs.Prelude.{◌≡◌, ℕ, ◌+◌, ◌<◌, ℤ, pos, ◌+ℤ◌, ◌*ℤ◌, IsTrue, List, [], ◌∷◌, All, slice_index_or}
use Rattle.etp_theory.specs.Trees.{Tree}
use Rattle.etp_theory.specs.Magmas.{meaning}
use Rattle.etp_forms.specs.Forms.{Affine, coefficient, constant}
use Rattle.etp_linear.specs.Magmas.{LinearMagma, inside, reduced, times}
use Rattle.etp_linear.specs.declared.parts.Ring.{Ring}
use Rattle.etp_linear.specs.declared.parts.Form.{Form}

-- the magma's operation in its parts
abbrev pub affine : LinearMagma → Affine ℤ
affine l = record {
  plus = λ x y. reduced l.ring (x +ℤ y);
  origin = pos 0;
  on_left = λ x. reduced l.ring (l.a *ℤ x);
  on_right = λ x. reduced l.ring (l.b *ℤ x);
  added = l.c;
}

-- 1, which is 0 modulo 1
abbrev pub one : Ring → ℤ
one ring = reduced ring (pos 1)

-- how often a term's value has a variable's
abbrev pub coefficient_of : LinearMagma → Tree → ℕ → ℤ
coefficient_of l t v = coefficient (affine l) t v (one l.ring)

abbrev pub constant_of : LinearMagma → Tree → ℤ
constant_of l t = constant (affine l) t

-- each coefficient times the value of its variable, and the sum of these
abbrev pub products : List ℤ → (ℕ → ℤ) → ℤ
products [] r = pos 0
products (k ∷ ks) r = k *ℤ r 0 +ℤ products ks (λ v. r (v + 1))

-- the value of the term at every assignment is that of the form, whose numbers are of the carrier
pub record IsFormOf (l : LinearMagma) (t : Tree) (form : Form) : Type 0 where
  pub value : (r : ℕ → ℤ) → ((v : ℕ) → IsTrue (inside l.ring (r v)))
      → meaning (times l) r t ≡ reduced l.ring (products form.coefficients r +ℤ form.constant)
  pub coefficients_inside : All (λ k. IsTrue (inside l.ring k)) form.coefficients
  pub constant_inside : IsTrue (inside l.ring form.constant)

-- the form's coefficient of a variable below 8
abbrev pub coefficient_at : Form → ℕ → ℤ
coefficient_at form v = slice_index_or form.coefficients v (pos 0)

-- its numbers are the coefficients of the variables below 8 and the constant
pub record HasNumbers (l : LinearMagma) (t : Tree) (form : Form) : Type 0 where
  pub coefficients : (v : ℕ) → v < 8 → coefficient_at form v ≡ coefficient_of l t v
  pub constant : form.constant ≡ constant_of l t
