-- Matrix-linear magmas have linear forms.
use Rattle.std.proofs.Common.{◌≡◌, ℕ, ◌+◌, ◌%◌, ◌<◌, ◌≤◌, ◌⊎◌, inl, inr, sym, ap, ap₂, ◌∙◌, arith, List, get_or, length, mod-eq_of_lt}
use Rattle.std.specs.Prelude.{IsTrue}
use Rattle.std.proofs.lemmas.List.FromFn.{get_or-map-range_with_len}
use Rattle.std.proofs.lemmas.List.Elements.{All-get_or}
use Rattle.std.proofs.Math.Nat.{mod-add-mod}
use Rattle.std.proofs.lemmas.Bool.{cases_lt}
use Rattle.etp_theory.specs.Trees.{Tree}
use Rattle.etp_forms.specs.Forms.{coefficient, IsLinear}
use Rattle.etp_matrix.specs.Magmas.{MatrixMagma, IsMatrixMagma, AreBelow, inside, times, entry, row_times}
use Rattle.etp_matrix.specs.Values.{affine, plus, product, unit, column_of, matrix_of, by_columns}
use Rattle.etp_matrix.specs.Walks.{IsVector}
use Rattle.etp_matrix.proofs.Sums.{at, past, vectors_same, is_vector, to_vector}
use Rattle.etp_matrix.proofs.Modules.{plus_at, product_is_additive, product_unit, coefficient_is_additive, unit_vector, agree, linear}

pub below_at : (m : ℕ) (xs : List ℕ) → 0 < m → AreBelow m xs → (i : ℕ) → get_or xs i 0 < m
below_at m xs some all i = go (cases_lt i (length xs))
  where
    go : (i < length xs) ⊎ (length xs ≤ i) → get_or xs i 0 < m
    go (inl h) = All-get_or (λ k. k < m) xs i 0 h all
    go (inr h) = omega (arith, past xs i h)

module _ (g : MatrixMagma) (ok : IsMatrixMagma g) where
  pub some : 0 < g.modulus
  some = omega (arith, ok.modulus.at_least)

  pub c_vector : IsVector g.modulus g.size g.c
  c_vector = record { long = ok.shape.c_length; below = λ i h. below_at g.modulus g.c some ok.c_below i }

  operation_is : (x y : List ℕ) → times g x y ≡ plus g.modulus g.size (plus g.modulus g.size (product g.modulus g.size (entry g.size g.a) x) (product g.modulus g.size (entry g.size g.b) y)) g.c
  operation_is x y = vectors_same g.size _ _ (λ i h.
      let p = row_times g.size g.a x i in
      let q = row_times g.size g.b y i in
      let k = get_or g.c i 0 in
      sym (ap (λ w. (w + k) % g.modulus) (plus_at g.modulus g.size some (product g.modulus g.size (entry g.size g.a) x) (product g.modulus g.size (entry g.size g.b) y) i h
      ∙ ap₂ (λ v w. (v + w) % g.modulus) (at g.size (λ row. row_times g.size g.a x row % g.modulus) i h) (at g.size (λ row. row_times g.size g.b y row % g.modulus) i h))
      ∙ mod-add-mod (p % g.modulus + q % g.modulus) g.modulus k ∙ ap (λ w. w % g.modulus) (omega arith)
      ∙ mod-add-mod p g.modulus (q % g.modulus + k) ∙ ap (λ w. w % g.modulus) (omega arith)
      ∙ mod-add-mod q g.modulus (p + k) ∙ ap (λ w. w % g.modulus) (omega arith)))

  pub is_linear : IsLinear (inside g) (times g) (affine g)
  is_linear = linear g.modulus g.size some (entry g.size g.a) (entry g.size g.b) g.c c_vector (times g) (λ x y v w. operation_is x y)

  pub column_at : (t : Tree) (v k : ℕ) (d : List ℕ) → k < g.size → get_or (matrix_of g t v) k d ≡ column_of g t v k
  column_at t v k d h = get_or-map-range_with_len (column_of g t v) 0 g.size k k d h (omega arith)

  pub column_vector : (t : Tree) (v k : ℕ) → IsVector g.modulus g.size (column_of g t v k)
  column_vector t v k = (coefficient_is_additive g.modulus g.size some (entry g.size g.a) (entry g.size g.b) g.c t v).keeps _ (unit_vector g.modulus g.size some k)

  pub by_matrix : (t : Tree) (v : ℕ) (x : List ℕ) → IsTrue (inside g x) → coefficient (affine g) t v x ≡ product g.modulus g.size (by_columns (matrix_of g t v)) x
  by_matrix t v x i =
      agree g.modulus g.size some (coefficient (affine g) t v) (product g.modulus g.size (by_columns (matrix_of g t v)))
      (coefficient_is_additive g.modulus g.size some (entry g.size g.a) (entry g.size g.b) g.c t v) (product_is_additive g.modulus g.size some (by_columns (matrix_of g t v)))
      (λ k h. each k h) x (to_vector g.modulus g.size x i)
    where
      each : (k : ℕ) → k < g.size → column_of g t v k ≡ product g.modulus g.size (by_columns (matrix_of g t v)) (unit g.modulus g.size k)
      each k h =
          is_vector g.size (λ i. by_columns (matrix_of g t v) i k % g.modulus) (column_of g t v k) (column_vector t v k).long
          (λ i l. sym (ap (λ c. get_or c i 0 % g.modulus) (column_at t v k _ h) ∙ mod-eq_of_lt ((column_vector t v k).below i l)))
          ∙ sym (product_unit g.modulus g.size some (by_columns (matrix_of g t v)) k h)
