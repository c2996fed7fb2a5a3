-- Equations written as lists of numbers, from which they are read back. No clause cites it.
use Rattle.std.specs.Prelude.{ℕ, zero, suc, List, [], ◌∷◌, ◌++◌, ◌≡◌, refl}
use Rattle.std.specs.Coded.{Coded, code_by, coded_ℕ, coded_list}
use Rattle.std.proofs.Common.{◌∙◌, ap, append_assoc}
use Rattle.etp_theory.specs.Trees.{Tree, var, op, Equation}

-- the parts of an operation first, then 0; a variable as its number and one
abbrev pub written : Tree → List ℕ
written (var v) = suc v ∷ []
written (op l r) = written l ++ (written r ++ 0 ∷ [])

-- the terms read so far, the last one first
abbrev pub read : List ℕ → List Tree → List Tree
read [] ts = ts
read (suc v ∷ ns) ts = read ns (var v ∷ ts)
read (zero ∷ ns) [] = read ns []
read (zero ∷ ns) (t ∷ []) = read ns (t ∷ [])
read (zero ∷ ns) (r ∷ l ∷ ts) = read ns (op l r ∷ ts)

abbrev pub first_of_list : List Tree → Tree
first_of_list [] = var 0
first_of_list (t ∷ ts) = t

pub read-written : (t : Tree) (ns : List ℕ) (ts : List Tree) → read (written t ++ ns) ts ≡ read ns (t ∷ ts)
read-written (var v) ns ts = refl
read-written (op l r) ns ts =
    ap (λ u. read u ts) (append_assoc (written l) (written r ++ 0 ∷ []) ns
    ∙ ap (λ u. written l ++ u) (append_assoc (written r) (0 ∷ []) ns))
    ∙ read-written l (written r ++ (0 ∷ ns)) ts
    ∙ read-written r (0 ∷ ns) (l ∷ ts)

abbrev pub written_sides : Equation → List ℕ
written_sides e = written (op e.left e.right)

abbrev pub sides_of : Tree → Equation
sides_of (var v) = record { left = var v; right = var v }
sides_of (op l r) = record { left = l; right = r }

abbrev pub read_sides : List ℕ → Equation
read_sides ns = sides_of (first_of_list (read ns []))

pub read_sides-written : (e : Equation) → read_sides (written_sides e) ≡ e
read_sides-written e =
    ap (λ u. read_sides u) (sym_append (written_sides e))
    ∙ ap (λ u. sides_of (first_of_list u)) (read-written (op e.left e.right) [] [])
  where
    sym_append : (xs : List ℕ) → xs ≡ xs ++ []
    sym_append [] = refl
    sym_append (x ∷ xs) = ap (λ u. x ∷ u) (sym_append xs)

abbrev pub coded_equation : Coded Equation
coded_equation = code_by (List ℕ) (coded_list coded_ℕ) written_sides read_sides read_sides-written
