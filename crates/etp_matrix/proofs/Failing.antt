-- The first assignment at which a law fails, by the forms of its sides.
use Rattle.std.proofs.Common.{◌≡◌, ◌≢◌, ℕ, ◌<◌, ◌≤◌, ◌⊎◌, inl, inr, sym, ap, ap₂, ◌∙◌, subst, arith, Option, None, Some, List, [], length, get_or, Bool, true, false, cond, eqb}
use Rattle.std.specs.Prelude.{IsTrue}
use Rattle.std.proofs.lemmas.List.{ext_get_or}
use Rattle.std.proofs.lemmas.List.FromFn.{length-map-range_with_len}
use Rattle.std.proofs.lemmas.Bool.{cases_lt}
use Rattle.etp_theory.specs.Trees.{Tree, Equation, bound}
use Rattle.etp_theory.specs.Magmas.{meaning, Holds}
use Rattle.etp_forms.specs.Forms.{coefficient, HaveOneForm}
use Rattle.etp_forms.proofs.Values as Forms
use Rattle.etp_matrix.specs.Magmas.{MatrixMagma, IsMatrixMagma, inside, times, entry}
use Rattle.etp_matrix.specs.Values.{affine, plus, zeros, unit, column_of, constant_of, matrix_of, column}
use Rattle.etp_matrix.specs.Failures.{point, padded, IsPoint, IsBefore, IsFirstFailure}
use Rattle.etp_matrix.specs.Walks.{IsVector, Form, matrix_at, HasNumbers, AreAllSame, IsFirstDifference}
use Rattle.etp_matrix.specs.declared.parts.MatrixFailure.{MatrixFailure}
use Rattle.etp_matrix.proofs.Sums.{from_vector}
use Rattle.etp_matrix.proofs.Modules.{zeros_vector, unit_vector, units, unit_of, among_units, generate, none_there, plus_cancelled, constant_vector}
use Rattle.etp_matrix.proofs.Wide.{wider_injective, wider_padded, wider_plus}
use Rattle.etp_matrix.proofs.Magmas.{some, is_linear, column_vector, column_at}

module _ (g : MatrixMagma) (ok : IsMatrixMagma g) where
  abbrev V : List ℕ → Type 0
  V = IsVector g.modulus g.size

  constant_is : (t : Tree) → V (constant_of g t)
  constant_is t = constant_vector g.modulus g.size (some g ok) (entry g.size g.a) (entry g.size g.b) g.c t

  pub padded_injective : (x y : List ℕ) → V x → V y → padded x ≡ padded y → x ≡ y
  padded_injective x y v w e =
      wider_injective g.modulus g.size 4 (some g ok) ok.shape.at_most x y v w
      (wider_padded g.modulus g.size (some g ok) ok.shape.at_most x v ∙ e ∙ sym (wider_padded g.modulus g.size (some g ok) ok.shape.at_most y w))

  pub padded_plus : (x y : List ℕ) → V x → V y → plus g.modulus 4 (padded x) (padded y) ≡ padded (plus g.modulus g.size x y)
  padded_plus x y v w =
      let s = some g ok in
      let n = ok.shape.at_most in
      ap₂ (plus g.modulus 4) (sym (wider_padded g.modulus g.size s n x v)) (sym (wider_padded g.modulus g.size s n y w))
      ∙ sym (wider_plus g.modulus g.size 4 s n x y v w) ∙ wider_padded g.modulus g.size s n (plus g.modulus g.size x y) (Rattle.etp_matrix.proofs.Modules.plus_vector g.modulus g.size s x y)

  at_zero : (t : Tree) → meaning (times g) (point g None) t ≡ constant_of g t
  at_zero t = Forms.at_origin (inside g) (times g) (affine g) (is_linear g ok) t

  at_unit : (t : Tree) (v k : ℕ) → meaning (times g) (point g (Some (v, k))) t ≡ plus g.modulus g.size (column_of g t v k) (constant_of g t)
  at_unit t v k = Forms.at_one (inside g) (times g) (affine g) (is_linear g ok) v (unit g.modulus g.size k) (from_vector g.modulus g.size _ (unit_vector g.modulus g.size (some g ok) k)) t

  point_in : (p : Option (ℕ × ℕ)) (v : ℕ) → IsTrue (inside g (point g p v))
  point_in None v = from_vector g.modulus g.size _ (zeros_vector g.modulus g.size (some g ok))
  point_in (Some p) v = go (eqb v p.0)
    where
      go : (b : Bool) → IsTrue (inside g (cond b (unit g.modulus g.size p.1) (zeros g.size)))
      go true = from_vector g.modulus g.size _ (unit_vector g.modulus g.size (some g ok) p.1)
      go false = from_vector g.modulus g.size _ (zeros_vector g.modulus g.size (some g ok))

  -- ---- a law holds where the forms are one

  pub one_form : (p q : Tree) → constant_of g p ≡ constant_of g q → ((v k : ℕ) → k < g.size → column_of g p v k ≡ column_of g q v k) → HaveOneForm (affine g) (units g.modulus g.size (some g ok)) p q
  one_form p q e f = record {
    constants = e;
    coefficients = λ v x d. let u = unit_of g.modulus g.size (some g ok) x d in subst (λ z. coefficient (affine g) p v z ≡ coefficient (affine g) q v z) u.2 (f v u.0 u.1);
  }

  pub holds_by : (p q : Tree) → constant_of g p ≡ constant_of g q → ((v k : ℕ) → k < g.size → column_of g p v k ≡ column_of g q v k) → Holds (inside g) (times g) p q
  holds_by p q e f =
      Forms.one_form_holds (inside g) (times g) (affine g) (is_linear g ok) (units g.modulus g.size (some g ok)) (generate g.modulus g.size (some g ok) (entry g.size g.a) (entry g.size g.b) g.c) p q (one_form p q e f)

  pub by_matrices : (p q : Tree) → constant_of g p ≡ constant_of g q → ((v : ℕ) → matrix_of g p v ≡ matrix_of g q v) → Holds (inside g) (times g) p q
  by_matrices p q e f = holds_by p q e (λ v k h. sym (column_at g ok p v k [] h) ∙ ap (λ w. get_or w k []) (f v) ∙ column_at g ok q v k [] h)

  pub by_form : (p q : Tree) → Holds (inside g) (times g) p q → (constant_of g p ≡ constant_of g q) × ((v : ℕ) → matrix_of g p v ≡ matrix_of g q v)
  by_form p q h =
      let f = Forms.holds_one_form (inside g) (times g) (affine g) (is_linear g ok) (units g.modulus g.size (some g ok)) (generate g.modulus g.size (some g ok) (entry g.size g.a) (entry g.size g.b) g.c) p q h in
      (f.constants, λ v. same v (λ k i. f.coefficients v (unit g.modulus g.size k) (among_units g.modulus g.size (some g ok) k i)))
    where
      same : (v : ℕ) → ((k : ℕ) → k < g.size → column_of g p v k ≡ column_of g q v k) → matrix_of g p v ≡ matrix_of g q v
      same v f =
          let long : (t : Tree) → length (matrix_of g t v) ≡ g.size = λ t. length-map-range_with_len (column_of g t v) 0 g.size in
          ext_get_or [] (matrix_of g p v) (matrix_of g q v) (long p ∙ sym (long q))
          (λ k h. let i : k < g.size = omega (arith, long p) in column_at g ok p v k [] i ∙ f k i ∙ sym (column_at g ok q v k [] i))

  module _ (e : Equation) (left right : Form) (left_few : bound e.left ≤ 8) (right_few : bound e.right ≤ 8) (of_left : HasNumbers g e.left left) (of_right : HasNumbers g e.right right) where
    same_constants : left.constant ≡ right.constant → constant_of g e.left ≡ constant_of g e.right
    same_constants s = padded_injective _ _ (constant_is e.left) (constant_is e.right) (sym of_left.constant ∙ s ∙ of_right.constant)

    same_columns : (v : ℕ) → v < 8 → (k : ℕ) → k < g.size → column (matrix_at left.matrices v) k ≡ column (matrix_at right.matrices v) k → column_of g e.left v k ≡ column_of g e.right v k
    same_columns v h k i s = padded_injective _ _ (column_vector g ok e.left v k) (column_vector g ok e.right v k) (sym (of_left.columns v h k i) ∙ s ∙ of_right.columns v h k i)

    pub holds : left.constant ≡ right.constant → AreAllSame g.size left.matrices right.matrices → Holds (inside g) (times g) e.left e.right
    holds s a = holds_by e.left e.right (same_constants s) (λ v k i. each v k i (cases_lt v 8))
      where
        each : (v k : ℕ) → k < g.size → (v < 8) ⊎ (8 ≤ v) → column_of g e.left v k ≡ column_of g e.right v k
        each v k i (inl h) = same_columns v h k i (a v h k i)
        each v k i (inr h) =
            none_there g.modulus g.size (some g ok) (entry g.size g.a) (entry g.size g.b) g.c e.left v (unit g.modulus g.size k) (omega arith)
            ∙ sym (none_there g.modulus g.size (some g ok) (entry g.size g.a) (entry g.size g.b) g.c e.right v (unit g.modulus g.size k) (omega arith))

    pub fails_at_zero : left.constant ≢ right.constant → IsFirstFailure g e (record { at = None; left = left.constant; right = right.constant })
    fails_at_zero d = record {
      is_point = tt;
      assignment = point_in None;
      left_is = of_left.constant ∙ ap padded (sym (at_zero e.left));
      right_is = of_right.constant ∙ ap padded (sym (at_zero e.right));
      differ = d;
      before = λ p i b. nothing p b;
    }
      where
        nothing : (p : Option (ℕ × ℕ)) → IsBefore p None → meaning (times g) (point g p) e.left ≡ meaning (times g) (point g p) e.right
        nothing None b = absurd b
        nothing (Some p) b = absurd b

    value_left : (v k : ℕ) → v < 8 → k < g.size → plus g.modulus 4 (column (matrix_at left.matrices v) k) left.constant ≡ padded (meaning (times g) (point g (Some (v, k))) e.left)
    value_left v k h i =
        ap₂ (plus g.modulus 4) (of_left.columns v h k i) of_left.constant
        ∙ padded_plus (column_of g e.left v k) (constant_of g e.left) (column_vector g ok e.left v k) (constant_is e.left) ∙ ap padded (sym (at_unit e.left v k))

    value_right : (v k : ℕ) → v < 8 → k < g.size → plus g.modulus 4 (column (matrix_at right.matrices v) k) right.constant ≡ padded (meaning (times g) (point g (Some (v, k))) e.right)
    value_right v k h i =
        ap₂ (plus g.modulus 4) (of_right.columns v h k i) of_right.constant
        ∙ padded_plus (column_of g e.right v k) (constant_of g e.right) (column_vector g ok e.right v k) (constant_is e.right) ∙ ap padded (sym (at_unit e.right v k))

    pub fails_at_unit : (v k : ℕ) (x y : List ℕ) → left.constant ≡ right.constant → IsFirstDifference g.size left.matrices right.matrices (v, k) → x ≡ plus g.modulus 4 (column (matrix_at left.matrices v) k) left.constant → y ≡ plus g.modulus 4 (column (matrix_at right.matrices v) k) right.constant → IsFirstFailure g e (record { at = Some (v, k); left = x; right = y })
    fails_at_unit v k x y s d ex ey = record {
      is_point = d.here.within;
      assignment = point_in (Some (v, k));
      left_is = ex ∙ value_left v k d.within d.here.within;
      right_is = ey ∙ value_right v k d.within d.here.within;
      differ = λ q. d.here.differ (plus_cancelled g.modulus 4 (some g ok) _ _ _ (of_left.inside.columns v d.within k small) (of_right.inside.columns v d.within k small) of_left.inside.constant
          (sym ex ∙ q ∙ ey ∙ ap (plus g.modulus 4 (column (matrix_at right.matrices v) k)) (sym s)));
      before = earlier;
    }
      where
        small : k < 4
        small = omega (arith, ok.shape.at_most, d.here.within)

        earlier : (p : Option (ℕ × ℕ)) → IsPoint g p → IsBefore p (Some (v, k)) → meaning (times g) (point g p) e.left ≡ meaning (times g) (point g p) e.right
        earlier None i b = at_zero e.left ∙ same_constants s ∙ sym (at_zero e.right)
        earlier (Some p) i (inl b) =
            at_unit e.left p.0 p.1 ∙ ap₂ (plus g.modulus g.size) (same_columns p.0 (omega (arith, b, d.within)) p.1 i (d.before p.0 b p.1 i)) (same_constants s) ∙ sym (at_unit e.right p.0 p.1)
        earlier (Some p) i (inr b) =
            at_unit e.left p.0 p.1
            ∙ ap₂ (plus g.modulus g.size) (same_columns p.0 (omega (arith, b.0, d.within)) p.1 i (subst (λ w. column (matrix_at left.matrices w) p.1 ≡ column (matrix_at right.matrices w) p.1) (sym b.0) (d.here.before p.1 b.1))) (same_constants s)
            ∙ sym (at_unit e.right p.0 p.1)

-- a law that fails at a point doesn't hold
pub fails : (g : MatrixMagma) (e : Equation) (f : MatrixFailure) → IsFirstFailure g e f → Holds (inside g) (times g) e.left e.right → ⊥
fails g e f first h = first.differ (first.left_is ∙ ap padded (h (point g f.at) first.assignment) ∙ sym first.right_is)
