-- A matrix-linear magma's operation stays in the carrier, and what is derived from a law that holds
-- holds too.
use Rattle.std.specs.Prelude.{◌≡◌, ℕ, zero, suc, ◌+◌, ◌%◌, ◌<◌, true, ◌&&◌, nat_eq, nat_lt, map, length, refl}
use Rattle.std.specs.List.{range_with_len, list_all}
use Rattle.std.proofs.Common.{arith, mod-lt, eq-eqb, ap₂}
use Rattle.std.proofs.lemmas.Bool.{lt-ltb}
use Rattle.std.proofs.lemmas.List.FromFn.{length-map-range_with_len}
use Rattle.etp_theory.specs.Trees.{Equation}
use Rattle.etp_theory.specs.Derivations.{Derives}
use Rattle.etp_theory.specs.Magmas.{IsClosed, Holds}
use Rattle.etp_theory.specs.Sound.{sound}
use Rattle.etp_matrix.specs.Magmas.{MatrixMagma, IsMatrixMagma, inside, times, vector}
use Rattle.etp_matrix.specs.Linears.{magma_of}
use Rattle.etp_matrix.specs.declared.matrix_linear.MatrixLinear.{MatrixLinear}

all_below : (m : ℕ) → 0 < m → (f : ℕ → ℕ) (a n : ℕ)
    → list_all (λ k. nat_lt k m) (map (λ i. f i % m) (range_with_len a n)) ≡ true
all_below m h f a zero = refl
all_below m h f a (suc n) = ap₂ (λ x y. x && y) (lt-ltb (f a % m) m (mod-lt (f a) h)) (all_below m h f (a + 1) n)

pub vector_inside : (m size : ℕ) → 0 < m → (f : ℕ → ℕ)
    → (nat_eq (length (vector size (λ i. f i % m))) size && list_all (λ k. nat_lt k m) (vector size (λ i. f i % m))) ≡ true
vector_inside m size h f =
    ap₂ (λ x y. x && y) (eq-eqb _ size (length-map-range_with_len (λ i. f i % m) 0 size)) (all_below m h f 0 size)

pub closed_in : (g : MatrixMagma) → IsMatrixMagma g → IsClosed (inside g) (times g)
closed_in g ok x y i j = vector_inside g.modulus g.size (omega (arith, ok.modulus.at_least)) _

pub keeps : (m : MatrixLinear) (e f : Equation)
    → Holds (inside (magma_of m)) (times (magma_of m)) e.left e.right → Derives e f
    → Holds (inside (magma_of m)) (times (magma_of m)) f.left f.right
keeps m e f h d = sound (inside (magma_of m)) (times (magma_of m)) (closed_in (magma_of m) m.in_range) e h d

pub stays : (m : MatrixLinear) → IsClosed (inside (magma_of m)) (times (magma_of m))
stays m = closed_in (magma_of m) m.in_range
