-- The lines of a matrix-linear magma part by part.
use Rattle.std.proofs.Common.{◌≡◌, ℕ, List, [], ◌∷◌, ◌++◌, map, refl, ap, ◌∙◌}
use Rattle.etp_matrix.specs.declared.parts.Part.TheVariants.{A, B, C}
use Rattle.etp_lines.specs.MatrixLines.{MatrixLine, row, rows_of}
use Rattle.etp_lines.specs.BodyLines.{Line, matrix_line}

split : (xs ys : List MatrixLine) (ls : List Line) → map matrix_line (xs ++ ys) ++ ls ≡ map matrix_line xs ++ (map matrix_line ys ++ ls)
split [] ys ls = refl
split (x ∷ xs) ys ls = ap (λ z. matrix_line x ∷ z) (split xs ys ls)

pub rows_split : (a b c : List (List ℕ)) (ls : List Line) → map matrix_line (rows_of a b c) ++ ls
    ≡ map matrix_line (map (row A) a) ++ (map matrix_line (map (row B) b) ++ (map matrix_line (map (row C) c) ++ ls))
rows_split a b c ls =
    split (map (row A) a) (map (row B) b ++ map (row C) c) ls ∙ ap (λ z. map matrix_line (map (row A) a) ++ z) (split (map (row B) b) (map (row C) c) ls)
