-- How long a written term is.
use Rattle.std.proofs.Common.{◌≡◌, ℕ, ◌+◌, ◌*◌, ◌<◌, ◌≤◌, arith, Bool, true, false, cond, nat_eq, List, ◌++◌, length, codes, decimal, length-append}
use Rattle.std.proofs.lemmas.Fmt.{length-decimal-le}
use Rattle.etp_theory.specs.Trees.{Tree, var, op, bound, leaves}
use Rattle.etp_text.specs.Written.{sign, variable_name, written_part, written_term}

either_short : (a : Bool) (x y : List ℕ) → length x ≤ 3 → length y ≤ 3 → length (cond a x y) ≤ 3
either_short true x y h k = h
either_short false x y h k = k

-- the name of a variable has at most three bytes
name_short : (v : ℕ) → v < 64 → length (variable_name v) ≤ 3
name_short v h =
    let digits : length (decimal v) ≤ 2 = length-decimal-le 2 v (omega arith) (omega arith) (omega arith) in
    either_short (nat_eq v 0) (codes "x") _ (omega arith)
    (either_short (nat_eq v 1) (codes "y") _ (omega arith)
    (either_short (nat_eq v 2) (codes "z") _ (omega arith)
    (either_short (nat_eq v 3) (codes "w") _ (omega arith)
    (either_short (nat_eq v 4) (codes "u") _ (omega arith)
    (either_short (nat_eq v 5) (codes "v") (codes "v" ++ decimal v) (omega arith) (omega arith))))))

part_length : (l r : List ℕ) → length ((((codes "(" ++ l) ++ sign) ++ r) ++ codes ")") ≡ length l + length r + 7
part_length l r = omega (arith, length-append ((l ++ sign) ++ r) (codes ")"), length-append (l ++ sign) r, length-append l sign)

term_length : (l r : List ℕ) → length ((l ++ sign) ++ r) ≡ length l + length r + 5
term_length l r = omega (arith, length-append (l ++ sign) r, length-append l sign)

part_short : (t : Tree) → bound t ≤ 64 → length (written_part t) + 7 ≤ 10 * leaves t
part_short (var v) h = let k = name_short v (omega arith) in omega arith
part_short (op l r) h =
    let a = part_short l (omega arith) in
    let b = part_short r (omega arith) in
    omega (arith, part_length (written_part l) (written_part r))

-- a term takes at most ten bytes for each of its leaves, less seven
pub written_term_short : (t : Tree) → bound t ≤ 64 → length (written_term t) + 7 ≤ 10 * leaves t
written_term_short (var v) h = let k = name_short v (omega arith) in omega arith
written_term_short (op l r) h =
    let a = part_short l (omega arith) in
    let b = part_short r (omega arith) in
    omega (arith, term_length (written_part l) (written_part r))
