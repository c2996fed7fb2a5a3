-- A walk through a term: what it has added to a form.
use Rattle.std.proofs.Common.{◌≡◌, ◌≢◌, ℕ, ◌+◌, ◌*◌, ◌%◌, ◌<◌, ◌≤◌, ◌⊎◌, inl, inr, refl, sym, ap, ap₂, ◌∙◌, subst, arith, mod-eq_of_lt, eq-eqb, Bool, true, false, cond, eqb, List, [], length, take, get_or, replicate}
use Rattle.std.specs.Prelude.{◌&&◌, nat_lt}
use Rattle.std.proofs.lemmas.Bool.{lt-ltb, le-ltb, eqb-true, cases_lt}
use Rattle.std.proofs.lemmas.List.{get_or-take, get_or-replicate}
use Rattle.std.proofs.lemmas.Nat.{mul-add-lt}
use Rattle.etp_theory.specs.Trees.{Tree, var, op, bound}
use Rattle.etp_forms.specs.Forms.{coefficient, constant}
use Rattle.etp_matrix.specs.Magmas.{MatrixMagma, IsMatrixMagma, AreBelow, vector, entry}
use Rattle.etp_matrix.specs.Values.{plus, product, zeros, unit, column_of, constant_of, column, by_columns}
use Rattle.etp_matrix.specs.Linears.{magma_of}
use Rattle.etp_matrix.specs.Walks.{IsVector, AreVectors, applied, wide, wide_column, Extends, wide_affine, Form, form, matrix_at, CanGain, Gains, HasNumbers}
use Rattle.etp_matrix.specs.declared.matrix_linear.MatrixLinear.{MatrixLinear}
use Rattle.etp_matrix.proofs.Sums.{at, past, is_vector, vectors_same}
use Rattle.etp_matrix.proofs.Modules.{IsAdditive, coefficient_vector, constant_vector, plus_vector, product_vector, zeros_vector, unit_vector, plus_associative, plus_commutative, plus_neutral, product_additive, product_zeros, product_unit, product_is_additive, composed, agree}
use Rattle.etp_matrix.proofs.Wide.{wider, is_wider, wider_vector, wider_unit, wider_coefficient, wider_constant, wider_padded}
use Rattle.etp_matrix.proofs.Magmas as Magmas

-- ---- matrices that are given column by column

module _ (m n : ℕ) (some : 0 < m) where
  abbrev Columns : List (List ℕ) → Type 0
  Columns p = (k : ℕ) → k < n → IsVector m n (column p k)

  abbrev by : List (List ℕ) → List ℕ → List ℕ
  by p = product m n (by_columns p)

  pub by_unit : (p : List (List ℕ)) → Columns p → (k : ℕ) → k < n → by p (unit m n k) ≡ column p k
  by_unit p h k l =
      product_unit m n some (by_columns p) k l
      ∙ sym (is_vector n (λ i. by_columns p i k % m) (column p k) (h k l).long (λ i j. sym (mod-eq_of_lt ((h k l).below i j))))

  -- the product of two matrices takes a vector through both
  pub followed : (p q : List (List ℕ)) (w : ℕ → ℕ → ℕ) → Columns q → ((i j : ℕ) → w i j < m) → ((k : ℕ) → k < n → column q k ≡ by p (vector n (λ i. w i k))) → (x : List ℕ) → IsVector m n x → by q x ≡ by p (product m n w x)
  followed p q w hq hw e x v =
      agree m n some (by q) (λ y. by p (product m n w y)) (product_is_additive m n some (by_columns q))
      (composed m n some (by p) (product m n w) (product_is_additive m n some (by_columns p)) (product_is_additive m n some w))
      (λ k l. by_unit q hq k l ∙ e k l ∙ ap (by p) (sym (product_unit m n some w k l ∙ vectors_same n (λ i. w i k % m) (λ i. w i k) (λ i j. mod-eq_of_lt (hw i k))))) x v

  unchanged : IsAdditive m n (λ x. x)
  unchanged = record { keeps = λ x v. v; zero = refl; sum = λ x y v w. refl }

  pub by_identity : (p : List (List ℕ)) → Columns p → ((k : ℕ) → k < n → column p k ≡ unit m n k) → (x : List ℕ) → IsVector m n x → by p x ≡ x
  by_identity p h e x v = agree m n some (by p) (λ y. y) (product_is_additive m n some (by_columns p)) unchanged (λ k l. by_unit p h k l ∙ e k l) x v

  -- a form gains the constant, then along the left part, then along the right one
  pub grown_constant : (p : List (List ℕ)) (a b : ℕ → ℕ → ℕ) (c o x y o1 o2 o3 : List ℕ) → o1 ≡ plus m n o (by p c) → o2 ≡ plus m n o1 (by p (product m n a x)) → o3 ≡ plus m n o2 (by p (product m n b y)) → o3 ≡ plus m n o (by p (plus m n (plus m n (product m n a x) (product m n b y)) c))
  grown_constant p a b c o x y o1 o2 o3 e1 e2 e3 =
      let ka = by p (product m n a x) in
      let kb = by p (product m n b y) in
      let kc = by p c in
      e3 ∙ ap (λ w. plus m n w kb) (e2 ∙ ap (λ w. plus m n w ka) e1)
      ∙ plus_associative m n some (plus m n o kc) ka kb ∙ plus_associative m n some o kc (plus m n ka kb)
      ∙ ap (plus m n o) (plus_commutative m n some kc (plus m n ka kb)
      ∙ sym (product_additive m n some (by_columns p) (plus m n (product m n a x) (product m n b y)) c
      ∙ ap (λ w. plus m n w kc) (product_additive m n some (by_columns p) (product m n a x) (product m n b y))))

  pub grown_column : (p : List (List ℕ)) (a b : ℕ → ℕ → ℕ) (o x y o2 o3 : List ℕ) → o2 ≡ plus m n o (by p (product m n a x)) → o3 ≡ plus m n o2 (by p (product m n b y)) → o3 ≡ plus m n o (by p (plus m n (product m n a x) (product m n b y)))
  grown_column p a b o x y o2 o3 e2 e3 =
      e3 ∙ ap (λ w. plus m n w (by p (product m n b y))) e2 ∙ plus_associative m n some o _ _
      ∙ ap (plus m n o) (sym (product_additive m n some (by_columns p) (product m n a x) (product m n b y)))

  pub plus_nothing : (p : List (List ℕ)) (o : List ℕ) → IsVector m n o → o ≡ plus m n o (by p (zeros n))
  plus_nothing p o v = sym (ap (plus m n o) (product_zeros m n some (by_columns p)) ∙ plus_neutral m n some o v)

  pub plus_from_nothing : (x : List ℕ) → IsVector m n x → plus m n (zeros n) x ≡ x
  plus_from_nothing x v = plus_commutative m n some (zeros n) x ∙ plus_neutral m n some x v

-- ---- a magma's matrices on four places

pub wide_same : (size : ℕ) (a : List ℕ) (i j : ℕ) → i < size → j < size → wide size a i j ≡ entry size (take (size * size) a) i j
wide_same size a i j h k =
    ap₂ (λ p q. cond (p && q) (entry size a i j) 0) (lt-ltb i size h) (lt-ltb j size k)
    ∙ sym (get_or-take (size * size) a (i * size + j) 0 (mul-add-lt i size j size h k))

pub wide_none : (size : ℕ) (a : List ℕ) (i j : ℕ) → size ≤ i → wide size a i j ≡ 0
wide_none size a i j h = ap (λ p. cond (p && nat_lt j size) (entry size a i j) 0) (le-ltb i size h)

pub wide_below : (m size : ℕ) (a : List ℕ) → 0 < m → AreBelow m (take (size * size) a) → (i j : ℕ) → wide size a i j < m
wide_below m size a some all i j = go (cases_lt i size) (cases_lt j size)
  where
    go : (i < size) ⊎ (size ≤ i) → (j < size) ⊎ (size ≤ j) → wide size a i j < m
    go (inl h) (inl k) = subst (λ w. w < m) (sym (wide_same size a i j h k)) (Magmas.below_at m (take (size * size) a) some all (i * size + j))
    go (inl h) (inr k) = subst (λ w. w < m) (sym (ap₂ (λ p q. cond (p && q) (entry size a i j) 0) (lt-ltb i size h) (le-ltb j size k))) some
    go (inr h) k = subst (λ w. w < m) (sym (wide_none size a i j h)) some

-- each column of such a matrix is a vector
pub wide_vector : (m size : ℕ) (a : List ℕ) → 0 < m → AreBelow m (take (size * size) a) → (k : ℕ) → IsVector m 4 (wide_column size a k)
wide_vector m size a some all k = record {
  long = refl;
  below = λ i h. subst (λ w. w < m) (sym (at 4 (λ i. wide size a i k) i h)) (wide_below m size a some all i k);
}

module _ (l : MatrixLinear) (long_c : length l.c ≡ 4) where
  abbrev g : MatrixMagma
  g = magma_of l

  abbrev ok : IsMatrixMagma (magma_of l)
  ok = l.in_range

  pub some : 0 < l.modulus
  some = omega (arith, ok.modulus.at_least)

  abbrev V : List ℕ → Type 0
  V = IsVector l.modulus 4

  c_is_wider : l.c ≡ wider l.modulus l.size 4 some ok.shape.at_most (take l.size l.c)
  c_is_wider = is_wider l.modulus l.size 4 some ok.shape.at_most (take l.size l.c) l.c long_c (λ i h. each i (cases_lt i l.size))
    where
      each : (i : ℕ) → (i < l.size) ⊎ (l.size ≤ i) → get_or l.c i 0 ≡ get_or (take l.size l.c) i 0
      each i (inl h) = sym (get_or-take l.size l.c i 0 h)
      each i (inr h) = l.past_size i h ∙ sym (past (take l.size l.c) i (omega (arith, ok.shape.c_length)))

  pub c_vector : V l.c
  c_vector = subst V (sym c_is_wider) (wider_vector l.modulus l.size 4 some ok.shape.at_most (take l.size l.c) (Magmas.c_vector g ok))

  pub a_below : (i j : ℕ) → wide l.size l.a i j < l.modulus
  a_below = wide_below l.modulus l.size l.a some ok.a_below

  pub b_below : (i j : ℕ) → wide l.size l.b i j < l.modulus
  b_below = wide_below l.modulus l.size l.b some ok.b_below

  pub constant_in : (t : Tree) → V (constant (wide_affine l) t)
  constant_in t = constant_vector l.modulus 4 some (wide l.size l.a) (wide l.size l.b) l.c t

  pub coefficient_in : (t : Tree) (v k : ℕ) → V (coefficient (wide_affine l) t v (unit l.modulus 4 k))
  coefficient_in t v k = coefficient_vector l.modulus 4 some (wide l.size l.a) (wide l.size l.b) l.c t v (unit l.modulus 4 k) (unit_vector l.modulus 4 some k)

  pub extended_vectors : (p : List (List ℕ)) (a : List ℕ) (q : List (List ℕ)) → Extends l p a q → AreVectors l.modulus q
  extended_vectors p a q e k h = subst V (sym (e k h)) (product_vector l.modulus 4 some (by_columns p) (wide_column l.size a k))

  pub can_left : (s t : Tree) (p q : List (List ℕ)) (old : Form) (c : List ℕ) → CanGain l (op s t) p old → Extends l p l.a q → c ≡ plus l.modulus 4 old.constant (applied l.modulus p l.c) → CanGain l s q (form old.matrices c)
  can_left s t p q old c can e d = record {
    variables = omega (arith, can.variables);
    factor_inside = extended_vectors p l.a q e;
    form_inside = record { constant = subst V (sym d) (plus_vector l.modulus 4 some old.constant (applied l.modulus p l.c)); columns = can.form_inside.columns };
  }

  pub can_right : (s t : Tree) (p q r : List (List ℕ)) (old between new : Form) → CanGain l (op s t) p old → Gains l s q between new → Extends l p l.b r → CanGain l t r new
  can_right s t p q r old between new can gains e = record {
    variables = omega (arith, can.variables);
    factor_inside = extended_vectors p l.b r e;
    form_inside = gains.inside;
  }

  pub gained : (s t : Tree) (p q r : List (List ℕ)) (old new end : Form) (c : List ℕ) → c ≡ plus l.modulus 4 old.constant (applied l.modulus p l.c) → Extends l p l.a q → Gains l s q (form old.matrices c) new → Extends l p l.b r → Gains l t r new end → Gains l (op s t) p old end
  gained s t p q r old new end c d e first f second = record {
    inside = second.inside;
    constant =
        let x = constant (wide_affine l) s in
        let y = constant (wide_affine l) t in
        grown_constant l.modulus 4 some p (wide l.size l.a) (wide l.size l.b) l.c old.constant x y c new.constant end.constant d
        (first.constant ∙ ap (plus l.modulus 4 c) (followed l.modulus 4 some p q (wide l.size l.a) (extended_vectors p l.a q e) a_below e x (constant_in s)))
        (second.constant ∙ ap (plus l.modulus 4 new.constant) (followed l.modulus 4 some p r (wide l.size l.b) (extended_vectors p l.b r f) b_below f y (constant_in t)));
    columns = λ v h k i.
        let z = unit l.modulus 4 k in
        let x = coefficient (wide_affine l) s v z in
        let y = coefficient (wide_affine l) t v z in
        grown_column l.modulus 4 some p (wide l.size l.a) (wide l.size l.b) (column (matrix_at old.matrices v) k) x y (column (matrix_at new.matrices v) k) (column (matrix_at end.matrices v) k)
        (first.columns v h k i ∙ ap (plus l.modulus 4 (column (matrix_at old.matrices v) k)) (followed l.modulus 4 some p q (wide l.size l.a) (extended_vectors p l.a q e) a_below e x (coefficient_in s v k)))
        (second.columns v h k i ∙ ap (plus l.modulus 4 (column (matrix_at new.matrices v) k)) (followed l.modulus 4 some p r (wide l.size l.b) (extended_vectors p l.b r f) b_below f y (coefficient_in t v k)));
  }

  pub gained_var : (x : ℕ) (p : List (List ℕ)) (old new : Form) → CanGain l (var x) p old → new.constant ≡ old.constant → ((k : ℕ) → k < 4 → column (matrix_at new.matrices x) k ≡ plus l.modulus 4 (column (matrix_at old.matrices x) k) (column p k)) → ((v : ℕ) → v ≢ x → matrix_at new.matrices v ≡ matrix_at old.matrices v) → Gains l (var x) p old new
  gained_var x p old new can e here others = record {
    inside = record {
      constant = subst V (sym e) can.form_inside.constant;
      columns = λ v h k i. inside v h k i (eqb x v) refl;
    };
    constant = e ∙ plus_nothing l.modulus 4 some p old.constant can.form_inside.constant;
    columns = λ v h k i. each v h k i (eqb x v) refl;
  }
    where
      moved : (v k : ℕ) (b : Bool) → eqb x v ≡ b → applied l.modulus p (cond b (unit l.modulus 4 k) (zeros 4)) ≡ applied l.modulus p (coefficient (wide_affine l) (var x) v (unit l.modulus 4 k))
      moved v k b q = ap (λ b. applied l.modulus p (cond b (unit l.modulus 4 k) (zeros 4))) (sym q)

      inside : (v : ℕ) → v < 8 → (k : ℕ) → k < 4 → (b : Bool) → eqb x v ≡ b → V (column (matrix_at new.matrices v) k)
      inside v h k i true q =
          subst V (sym (ap (λ w. column (matrix_at new.matrices w) k) (sym (eqb-true x v q)) ∙ here k i)) (plus_vector l.modulus 4 some (column (matrix_at old.matrices x) k) (column p k))
      inside v h k i false q =
          subst V (sym (ap (λ w. column w k) (others v (λ r. let d = eq-eqb x v (sym r) in cc)))) (can.form_inside.columns v h k i)

      each : (v : ℕ) → v < 8 → (k : ℕ) → k < 4 → (b : Bool) → eqb x v ≡ b → column (matrix_at new.matrices v) k ≡ plus l.modulus 4 (column (matrix_at old.matrices v) k) (applied l.modulus p (coefficient (wide_affine l) (var x) v (unit l.modulus 4 k)))
      each v h k i true q =
          ap (λ w. column (matrix_at new.matrices w) k) (sym (eqb-true x v q)) ∙ here k i ∙ ap (λ w. plus l.modulus 4 (column (matrix_at old.matrices w) k) (column p k)) (eqb-true x v q)
          ∙ ap (plus l.modulus 4 (column (matrix_at old.matrices v) k)) (sym (by_unit l.modulus 4 some p can.factor_inside k i) ∙ moved v k true q)
      each v h k i false q =
          ap (λ w. column w k) (others v (λ r. let d = eq-eqb x v (sym r) in cc))
          ∙ plus_nothing l.modulus 4 some p (column (matrix_at old.matrices v) k) (can.form_inside.columns v h k i)
          ∙ ap (plus l.modulus 4 (column (matrix_at old.matrices v) k)) (moved v k false q)

  -- ---- from nothing, by the matrix that changes nothing

  abbrev Identity : List (List ℕ) → Type 0
  Identity p = (k : ℕ) → k < 4 → column p k ≡ unit l.modulus 4 k

  pub nothing : Form
  nothing = form (replicate 8 (replicate 4 (replicate 4 0))) (replicate 4 0)

  nothing_column : (v : ℕ) → v < 8 → (k : ℕ) → k < 4 → column (matrix_at (replicate 8 (replicate 4 (replicate 4 0))) v) k ≡ zeros 4
  nothing_column v h k i = ap (λ w. column w k) (get_or-replicate 8 v (replicate 4 (replicate 4 0)) [] h) ∙ get_or-replicate 4 k (replicate 4 0) [] i

  identity_vectors : (p : List (List ℕ)) → Identity p → AreVectors l.modulus p
  identity_vectors p e k h = subst V (sym (e k h)) (unit_vector l.modulus 4 some k)

  pub can_start : (t : Tree) (p : List (List ℕ)) → bound t ≤ 8 → Identity p → CanGain l t p (form (replicate 8 (replicate 4 (replicate 4 0))) (replicate 4 0))
  can_start t p b e = record {
    variables = b;
    factor_inside = identity_vectors p e;
    form_inside = record {
      constant = zeros_vector l.modulus 4 some;
      columns = λ v h k i. subst V (sym (nothing_column v h k i)) (zeros_vector l.modulus 4 some);
    };
  }

  pub started : (t : Tree) (p : List (List ℕ)) (new : Form) → Identity p → Gains l t p (form (replicate 8 (replicate 4 (replicate 4 0))) (replicate 4 0)) new → HasNumbers (magma_of l) t new
  started t p new e gains = record {
    inside = gains.inside;
    constant =
        let w = constant (wide_affine l) t in
        gains.constant ∙ ap (plus l.modulus 4 (zeros 4)) (by_identity l.modulus 4 some p (identity_vectors p e) e w (constant_in t)) ∙ plus_from_nothing l.modulus 4 some w (constant_in t)
        ∙ wider_constant l.modulus l.size 4 some ok.shape.at_most (entry l.size g.a) (entry l.size g.b) g.c (wide l.size l.a) (wide l.size l.b) l.c (wide_same l.size l.a) (wide_none l.size l.a) (wide_same l.size l.b) (wide_none l.size l.b) (Magmas.c_vector g ok) c_is_wider t
        ∙ wider_padded l.modulus l.size some ok.shape.at_most (constant_of g t) (constant_vector l.modulus l.size some (entry l.size g.a) (entry l.size g.b) g.c t);
    columns = λ v h k i.
        let j : k < 4 = omega (arith, ok.shape.at_most) in
        let w = coefficient (wide_affine l) t v (unit l.modulus 4 k) in
        gains.columns v h k j ∙ ap₂ (plus l.modulus 4) (nothing_column v h k j) (by_identity l.modulus 4 some p (identity_vectors p e) e w (coefficient_in t v k)) ∙ plus_from_nothing l.modulus 4 some w (coefficient_in t v k)
        ∙ ap (coefficient (wide_affine l) t v) (sym (wider_unit l.modulus l.size 4 some ok.shape.at_most k i))
        ∙ wider_coefficient l.modulus l.size 4 some ok.shape.at_most (entry l.size g.a) (entry l.size g.b) g.c (wide l.size l.a) (wide l.size l.b) l.c (wide_same l.size l.a) (wide_none l.size l.a) (wide_same l.size l.b) (wide_none l.size l.b) (Magmas.c_vector g ok) c_is_wider t v (unit l.modulus l.size k) (unit_vector l.modulus l.size some k)
        ∙ wider_padded l.modulus l.size some ok.shape.at_most (column_of g t v k) (Magmas.column_vector g ok t v k);
  }
