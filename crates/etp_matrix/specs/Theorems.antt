-- What is so of matrix-linear magmas, as a contract names it.
use Rattle.std.specs.Prelude.{◌≡◌, ℕ, ◌↔◌, IsTrue, List, [], ◌∷◌}
use Rattle.etp_theory.specs.Trees.{Tree, Equation, var, op}
use Rattle.etp_theory.specs.Magmas.{IsClosed, Holds}
use Rattle.etp_forms.specs.Forms.{coefficient}
use Rattle.etp_matrix.specs.Magmas.{MatrixMagma, inside, times, IsMatrixMagma}
use Rattle.etp_matrix.specs.Values.{affine, matrix_of, constant_of, product, by_columns}
use Rattle.etp_matrix.specs.Judgements.{IsJudged, IsOutOfRange, IsFirstOffence}
use Rattle.etp_matrix.specs.declared.refusal.MatrixRefusal.{MatrixRefusal}

-- modulo 2: the first row of A is 0 1 and the second 1 1; those of B are 1 1 and 1 0; c is 0 0
abbrev pub modulo_two : MatrixMagma
modulo_two = record {
  modulus = 2;
  size = 2;
  a = 0 ∷ 1 ∷ 1 ∷ 1 ∷ [];
  b = 1 ∷ 1 ∷ 1 ∷ 0 ∷ [];
  c = 0 ∷ 0 ∷ [];
}

-- modulo 5: the rows of A are 1 2 and 3 4, those of B are 0 1 and 0 0; c is 0 3
abbrev pub modulo_five : MatrixMagma
modulo_five = record {
  modulus = 5;
  size = 2;
  a = 1 ∷ 2 ∷ 3 ∷ 4 ∷ [];
  b = 0 ∷ 1 ∷ 0 ∷ 0 ∷ [];
  c = 0 ∷ 3 ∷ [];
}

pub record MatrixTheorems : Type 0 where
  pub closed : (g : MatrixMagma) → IsMatrixMagma g → IsClosed (inside g) (times g)
  -- what a variable adds is its coefficient matrix times the variable's value
  pub by_matrix : (g : MatrixMagma) → IsMatrixMagma g → (t : Tree) (v : ℕ) (x : List ℕ) → IsTrue (inside g x)
      → coefficient (affine g) t v x ≡ product g.modulus g.size (by_columns (matrix_of g t v)) x
  -- a law holds exactly where both sides have equal constants and equal matrices of each variable
  pub holds : (g : MatrixMagma) → IsMatrixMagma g → (p q : Tree) → Holds (inside g) (times g) p q
      ↔ ((constant_of g p ≡ constant_of g q) × ((v : ℕ) → matrix_of g p v ≡ matrix_of g q v))
  -- laws are judged right or have a first offence, never both
  pub not_both : (laws : List Equation) (g : MatrixMagma) (holds fails : List ℕ) (r : MatrixRefusal)
      → IsJudged laws g holds fails → IsFirstOffence laws g holds fails r → ⊥
  pub one_offence : (laws : List Equation) (g : MatrixMagma) (holds fails : List ℕ) (r s : MatrixRefusal)
      → IsFirstOffence laws g holds fails r → IsFirstOffence laws g holds fails s → r ≡ s
  -- and so are its modulus and numbers in range or one is the first that isn't
  pub in_or_out : (g : MatrixMagma) (r : MatrixRefusal) → IsMatrixMagma g → IsOutOfRange g r → ⊥
  pub one_out_of_range : (g : MatrixMagma) (r s : MatrixRefusal) → IsOutOfRange g r → IsOutOfRange g s → r ≡ s
  -- small values, which are computed
  pub value_modulo_two : times modulo_two (1 ∷ 0 ∷ []) (1 ∷ 0 ∷ []) ≡ 1 ∷ 0 ∷ []
  pub value_modulo_five : times modulo_five (1 ∷ 2 ∷ []) (4 ∷ 3 ∷ []) ≡ 3 ∷ 4 ∷ []
  -- the matrix of x in y ◇ (x ◇ y) is B A, not A B
  pub matrix_modulo_five : matrix_of modulo_five (op (var 1) (op (var 0) (var 1))) 0
      ≡ (3 ∷ 0 ∷ []) ∷ (4 ∷ 0 ∷ []) ∷ []
