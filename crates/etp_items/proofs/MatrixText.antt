-- The text of a matrix-linear magma, written line by line.
use Rattle.std.proofs.Common.{◌≡◌, ℕ, List, [], ◌∷◌, ◌++◌, map, codes, sym, ap, ◌∙◌, append_assoc, OnOk, Result, Ok, Err}
use Rattle.etp_matrix.specs.Magmas.{MatrixMagma}
use Rattle.etp_matrix.specs.declared.parts.Part.TheVariants.{A, B, C}
use Rattle.etp_lines.specs.MatrixLines.{MatrixLine, row, rows_of}
use Rattle.etp_items.specs.Bodies.{matrix}
use Rattle.etp_items.specs.Written.{written_by, written_numbers, written_matrix_line, cut, model_text}
use Rattle.etp_items.proofs.NumberLemmas.{written_map, written_join}

-- pieces that are appended one after another
joined_last : (s t u p q : List ℕ) → t ≡ s ++ p → u ≡ t ++ q → u ≡ s ++ (p ++ q)
joined_last s t u p q e f = f ∙ ap (λ z. z ++ q) e ∙ append_assoc s p q

module _ (g : MatrixMagma) where
  abbrev head : List ℕ
  head = written_numbers (codes "matrix") (g.modulus ∷ g.size ∷ [])

  abbrev text_a : List ℕ
  text_a = written_by (written_numbers (codes "a")) (cut g.size g.a)

  abbrev text_b : List ℕ
  text_b = written_by (written_numbers (codes "b")) (cut g.size g.b)

  abbrev text_c : List ℕ
  text_c = written_numbers (codes "c") g.c ++ 10 ∷ []

  abbrev lines_a : List MatrixLine
  lines_a = map (row A) (cut g.size g.a)

  abbrev lines_b : List MatrixLine
  lines_b = map (row B) (cut g.size g.b)

  abbrev lines_c : List MatrixLine
  lines_c = row C g.c ∷ []

  rows_text : written_by written_matrix_line (rows_of (cut g.size g.a) (cut g.size g.b) (g.c ∷ [])) ≡ text_a ++ (text_b ++ text_c)
  rows_text =
      written_join written_matrix_line lines_a (lines_b ++ lines_c)
      ∙ ap (λ z. z ++ written_by written_matrix_line (lines_b ++ lines_c)) (written_map written_matrix_line (row A) (cut g.size g.a))
      ∙ ap (λ z. text_a ++ z) (written_join written_matrix_line lines_b lines_c
      ∙ ap (λ z. z ++ written_by written_matrix_line lines_c) (written_map written_matrix_line (row B) (cut g.size g.b)))

  whole_text : (((head ++ 10 ∷ []) ++ text_a) ++ text_b) ++ text_c ≡ model_text (matrix g)
  whole_text =
      append_assoc ((head ++ 10 ∷ []) ++ text_a) text_b text_c
      ∙ append_assoc (head ++ 10 ∷ []) text_a (text_b ++ text_c)
      ∙ append_assoc head (10 ∷ []) (text_a ++ (text_b ++ text_c))
      ∙ ap (λ z. head ++ 10 ∷ z) (sym rows_text)

  pub matrix_written : {T E : Type 0} (r : Result T E) (s t u v w : List ℕ)
      → t ≡ s ++ written_numbers (codes "matrix") (g.modulus ∷ g.size ∷ []) ++ 10 ∷ []
      → u ≡ t ++ written_by (written_numbers (codes "a")) (cut g.size g.a)
      → v ≡ u ++ written_by (written_numbers (codes "b")) (cut g.size g.b)
      → OnOk r (w ≡ v ++ written_numbers (codes "c") g.c ++ 10 ∷ []) → OnOk r (w ≡ s ++ model_text (matrix g))
  matrix_written (Err e) s t u v w h a b c = tt
  matrix_written (Ok x) s t u v w h a b c =
      let first : t ≡ s ++ (head ++ 10 ∷ []) = h ∙ append_assoc s head (10 ∷ []) in
      let last : w ≡ v ++ text_c = c ∙ append_assoc v (written_numbers (codes "c") g.c) (10 ∷ []) in
      let front = (head ++ 10 ∷ []) ++ text_a in
      joined_last s v w (front ++ text_b) text_c (joined_last s u v front text_b (joined_last s t u (head ++ 10 ∷ []) text_a first a) b) last
      ∙ ap (λ z. s ++ z) whole_text
