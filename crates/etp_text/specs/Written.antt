-- Terms and laws as they are written.
use Rattle.std.specs.Prelude.{ℕ, List, [], ◌∷◌, ◌++◌, codes, decimal, nat_eq, if◌then◌else◌}
use Rattle.etp_theory.specs.Trees.{Tree, var, op, Equation}

-- ` ◇ `
abbrev pub sign : List ℕ
sign = 32 ∷ 226 ∷ 151 ∷ 135 ∷ 32 ∷ []

-- the variables are x, y, z, w, u, v, v6, v7 and so on
abbrev pub variable_name : ℕ → List ℕ
variable_name v =
    if nat_eq v 0 then codes "x" else (if nat_eq v 1 then codes "y" else
    (if nat_eq v 2 then codes "z" else
    (if nat_eq v 3 then codes "w" else (if nat_eq v 4 then codes "u" else
    (if nat_eq v 5 then codes "v" else codes "v" ++ decimal v)))))

-- a part of an operation; a part that is an operation stands in parentheses
abbrev pub written_part : Tree → List ℕ
written_part (var v) = variable_name v
written_part (op l r) = codes "(" ++ written_part l ++ sign ++ written_part r ++ codes ")"

abbrev pub written_term : Tree → List ℕ
written_term (var v) = variable_name v
written_term (op l r) = written_part l ++ sign ++ written_part r

abbrev pub written_law : Equation → List ℕ
written_law law = written_term law.left ++ codes " = " ++ written_term law.right
