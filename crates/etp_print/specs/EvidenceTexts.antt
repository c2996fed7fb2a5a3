-- The lines of evidence, without the newline.
use Rattle.std.specs.Prelude.{ℕ, List, [], ◌++◌, Bool, codes, decimal, if◌then◌else◌}
use Rattle.etp_theory.specs.Trees.{Tree}
use Rattle.etp_text.specs.Written.{written_term}
use Rattle.etp_chain.specs.declared.evidence.Edge.{Edge}
use Rattle.etp_chain.specs.declared.evidence.Cover.{Cover}
use Rattle.etp_table.specs.Points.{values_of}
use Rattle.etp_table.specs.declared.point.Point.{Point}
use Rattle.etp_linear.specs.declared.parts.LinearFailure.{LinearFailure}
use Rattle.etp_matrix.specs.declared.parts.MatrixFailure.{MatrixFailure}
use Rattle.etp_print.specs.RefusalTexts.{values_text, sides_text, failure_text, unit_vector_text, vectors_text}

-- the name of a file, and whether the dual of what it says is meant
abbrev pub file_text : List ℕ → Bool → List ℕ
file_text name dual = codes " " ++ name ++ (if dual then codes " dual" else [])

-- an edge and the file that gives it
abbrev pub edge_line : Edge → List ℕ → List ℕ
edge_line edge name =
    decimal edge.hypothesis ++ codes " -> " ++ decimal edge.goal ++ file_text name edge.dual

-- a law that holds and one that fails, and the file that says so
abbrev pub cover_line : Cover → List ℕ → List ℕ
cover_line cover name =
    codes "holds " ++ decimal cover.holds ++ codes " fails " ++ decimal cover.fails ++ file_text name cover.dual

-- where law n fails in a table
abbrev pub table_failure : ℕ → Point → ℕ → ℕ → List ℕ
table_failure n point left right =
    codes "fails " ++ decimal n ++ values_text 0 (values_of point) ++ sides_text left right

-- in a linear magma
abbrev pub linear_failure : ℕ → LinearFailure → List ℕ
linear_failure n f = codes "fails " ++ decimal n ++ failure_text f

-- in a matrix-linear magma over vectors of so many numbers
abbrev pub matrix_failure : ℕ → ℕ → MatrixFailure → List ℕ
matrix_failure n size f = codes "fails " ++ decimal n ++ unit_vector_text f.at ++ vectors_text size f

-- in a rule system, by the normal forms of its two sides
abbrev pub rules_failure : ℕ → Tree → Tree → List ℕ
rules_failure n u v =
    codes "fails " ++ decimal n ++ codes " left " ++ written_term u
    ++ codes " right " ++ written_term v
