-- A line of a matrix-linear magma says one thing, and its first word tells its kind.
use Rattle.std.proofs.Common.{◌≡◌, ℕ, List, [], ◌∷◌, refl, sym, ap, ◌∙◌, arith, get_or, Some, codes}
use Rattle.std.proofs.lemmas.Option.{same_Some}
use Rattle.etp_words.specs.Words.{words_of}
use Rattle.etp_words.specs.Numbers.{number_said}
use Rattle.etp_matrix.specs.declared.parts.Part.{Part}
use Rattle.etp_matrix.specs.declared.parts.Part.TheVariants.{A, B, C}
use Rattle.etp_lines.specs.Claims.{SaysNumbers}
use Rattle.etp_lines.specs.MatrixLines.{MatrixLine, matrix, row, SaysMatrix, part_word, SaysMatrixLine}
use Rattle.etp_lines.specs.BodyLines.{kind_named, of_matrices}
use Rattle.etp_lines.proofs.OneClaimLine.{same_numbers, same_first}

one_heading : (line : List ℕ) (k l m n : ℕ) → SaysMatrix line k m → SaysMatrix line l n → (k ≡ l) × (m ≡ n)
one_heading line k l m n p q =
    let e : (codes "matrix" ∷ p.first ∷ p.second ∷ []) ≡ (codes "matrix" ∷ q.first ∷ q.second ∷ []) = sym p.words ∙ q.words in
    let f : p.first ≡ q.first = cc in
    let g : p.second ≡ q.second = cc in
    (same_Some k l (sym p.modulus_said ∙ ap number_said f ∙ q.modulus_said), same_Some m n (sym p.size_said ∙ ap number_said g ∙ q.size_said))

heading_no_row : (line : List ℕ) (p : Part) (k m : ℕ) (n : List ℕ) → SaysMatrix line k m → SaysNumbers line (part_word p) n → ⊥
heading_no_row line A k m n s t = let e : (codes "matrix" ∷ s.first ∷ s.second ∷ []) ≡ (codes "a" ∷ t.more) = sym s.words ∙ t.words in let f : codes "matrix" ≡ codes "a" = cc in absurd (omega (arith, ap (λ w. get_or w 0 0) f))
heading_no_row line B k m n s t = let e : (codes "matrix" ∷ s.first ∷ s.second ∷ []) ≡ (codes "b" ∷ t.more) = sym s.words ∙ t.words in let f : codes "matrix" ≡ codes "b" = cc in absurd (omega (arith, ap (λ w. get_or w 0 0) f))
heading_no_row line C k m n s t = let e : (codes "matrix" ∷ s.first ∷ s.second ∷ []) ≡ (codes "c" ∷ t.more) = sym s.words ∙ t.words in let f : codes "matrix" ≡ codes "c" = cc in absurd (omega (arith, ap (λ w. get_or w 0 0) f))

one_part : (p q : Part) → part_word p ≡ part_word q → p ≡ q
one_part A A e = refl
one_part A B e = absurd (omega (arith, ap (λ w. get_or w 0 0) e))
one_part A C e = absurd (omega (arith, ap (λ w. get_or w 0 0) e))
one_part B A e = absurd (omega (arith, ap (λ w. get_or w 0 0) e))
one_part B B e = refl
one_part B C e = absurd (omega (arith, ap (λ w. get_or w 0 0) e))
one_part C A e = absurd (omega (arith, ap (λ w. get_or w 0 0) e))
one_part C B e = absurd (omega (arith, ap (λ w. get_or w 0 0) e))
one_part C C e = refl

pub one_matrix_line : (line : List ℕ) (l m : MatrixLine) → SaysMatrixLine line l → SaysMatrixLine line m → l ≡ m
one_matrix_line line (matrix k m) (matrix l n) p q =
    let one = one_heading line k l m n p q in
    ap (λ z. matrix z m) one.0 ∙ ap (matrix l) one.1
one_matrix_line line (row i m) (row j n) p q =
    ap (λ (z : Part). row z m) (one_part i j (same_first line (part_word i) (part_word j) m n p q)) ∙ ap (row j) (same_numbers line (part_word i) (part_word j) m n p q)
one_matrix_line line (matrix k m) (row j n) p q = absurd (heading_no_row line j k m n p q)
one_matrix_line line (row i m) (matrix l n) p q = absurd (heading_no_row line i l n m q p)

-- the first word of a line that says this
abbrev pub first_word : MatrixLine → List ℕ
first_word (matrix modulus size) = codes "matrix"
first_word (row part entries) = part_word part

pub begins : (line : List ℕ) (l : MatrixLine) → SaysMatrixLine line l → (more : List (List ℕ)) × (words_of line ≡ first_word l ∷ more)
begins line (matrix modulus size) s = (s.first ∷ s.second ∷ [], s.words)
begins line (row part entries) s = (s.more, s.words)

pub first_word_kind : (l : MatrixLine) → kind_named (first_word l) ≡ Some of_matrices
first_word_kind (matrix modulus size) = refl
first_word_kind (row A entries) = refl
first_word_kind (row B entries) = refl
first_word_kind (row C entries) = refl
