-- How many variables are seen in two terms, and so how great their numbers are.
use Rattle.std.proofs.Common.{◌≡◌, ℕ, ◌+◌, ◌<◌, ◌≤◌, max, List, [], ◌∷◌, ◌++◌, length, Bool, true, false, cond, ◌==◌, Option, Some, None, refl, sym, ap, ◌∙◌, subst, arith}
use Rattle.std.specs.List.{position}
use Rattle.std.specs.Option.{unwrap_or}
use Rattle.std.proofs.lemmas.List.{length-append}
use Rattle.std.proofs.lemmas.List.Quantifiers.{position-Some}
use Rattle.etp_theory.specs.Trees.{Tree, var, op, bound, leaves, word_of, renamed}
use Rattle.etp_theory.proofs.Orders.{word_length}
use Rattle.etp_laws.specs.Occurrences.{place, seen_after, seen_all}
use Rattle.etp_numbering.specs.Numbering.{variables_of, place_in, numbered_in}

after-length : (seen : List ℕ) (v : ℕ) → length (seen_after seen v) ≤ length seen + 1
after-length seen v = go (place seen v == length seen)
  where
    go : (b : Bool) → length (cond b (seen ++ v ∷ []) seen) ≤ length seen + 1
    go true = omega (arith, length-append seen (v ∷ []))
    go false = omega arith

all-length : (seen w : List ℕ) → length (seen_all seen w) ≤ length seen + length w
all-length seen [] = omega arith
all-length seen (v ∷ w) = omega (arith, after-length seen v, all-length (seen_after seen v) w)

place-small : (xs : List ℕ) (v n : ℕ) → length xs ≤ n → 0 < n → place_in xs v < n
place-small xs v n few some = go (position (λ x. x == v) xs) refl
  where
    go : (o : Option ℕ) → position (λ x. x == v) xs ≡ o → unwrap_or o 0 < n
    go (Some k) e = omega (arith, few, (position-Some (λ x. x == v) xs k 0 e).0)
    go None e = some

bound-renamed : (f : ℕ → ℕ) (n : ℕ) → ((v : ℕ) → f v < n) → (t : Tree) → bound (renamed f t) ≤ n
bound-renamed f n small (var v) = omega (arith, small v)
bound-renamed f n small (op l r) = grind (arith, bound-renamed f n small l, bound-renamed f n small r)

some-leaves : (t : Tree) → 0 < leaves t
some-leaves (var v) = omega arith
some-leaves (op l r) = omega (arith, some-leaves l)

pub few : (s t u : Tree) → bound (numbered_in (variables_of s t) u) ≤ leaves s + leaves t
few s t u =
    bound-renamed (place_in (variables_of s t)) (leaves s + leaves t)
    (λ v. place-small (variables_of s t) v (leaves s + leaves t)
    (omega (arith, all-length [] (word_of s ++ word_of t), length-append (word_of s) (word_of t), word_length s, word_length t))
    (omega (arith, some-leaves s)))
    u
