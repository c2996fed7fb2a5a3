-- The listed laws one after another, from their shapes and words. What the program does; no public clause cites it.
use Rattle.std.specs.Prelude.{ℕ, zero, suc, ◌+◌, ◌-◌, ◌==◌, Bool, true, false, ◌&&◌, ◌||◌, not, cond, List, [], ◌∷◌, ◌++◌, map, filter, flat_map, take, drop, slice_index}
use Rattle.std.specs.List.{range_with_len}
use Rattle.std.specs.Str.{bytes_eq}
use Rattle.std.specs.Cmp.Lexicographic.{slice_cmp}
use Rattle.std.specs.Ordering.{nat_cmp, is_gt}
use Rattle.std.specs.declared.cmp.Ordering.{Ordering}
use Rattle.std.specs.declared.cmp.Ordering.TheVariants.{Less, Equal, Greater}
use Rattle.etp_theory.specs.Orders.{shape_cmp}
use Rattle.etp_theory.specs.Trees.{Tree, var, op, Shape, leaf, fork, Equation, shape_of, shape_leaves, law_word, exchanged, law_ops}
use Rattle.etp_laws.specs.Occurrences.{by_occurrence}

-- the shape with the word's variables at its leaves
abbrev pub filled : Shape → List ℕ → Tree
filled leaf w = var (slice_index w 0)
filled (fork a b) w = op (filled a (take (shape_leaves a) w)) (filled b (drop (shape_leaves a) w))

-- how many variables are used after v, where `used` were before
abbrev pub used_after : ℕ → ℕ → ℕ
used_after used v = cond (v == used) (used + 1) used

-- the words of n variables that go on after `used` variables, in order
abbrev pub words : ℕ → ℕ → List (List ℕ)
words zero used = [] ∷ []
words (suc n) used = flat_map (λ v. map (λ w. v ∷ w) (words n (used_after used v))) (range_with_len 0 (used + 1))

-- the pairs of shapes of n operations together, from the shapes of each number of operations
abbrev pub pairs_from : (ℕ → List Shape) → ℕ → List (Shape × Shape)
pairs_from shapes n =
    flat_map (λ i. flat_map (λ a. map (λ b. (a, b)) (shapes (n - i))) (shapes i)) (range_with_len 0 (n + 1))

abbrev pub joined : Shape × Shape → Shape
joined p = fork p.0 p.1

-- the shapes of n operations, in order; `depth` is above n
abbrev pub shapes_within : ℕ → ℕ → List Shape
shapes_within zero n = []
shapes_within (suc depth) zero = leaf ∷ []
shapes_within (suc depth) (suc n) = map joined (pairs_from (shapes_within depth) n)

abbrev pub shapes : ℕ → List Shape
shapes n = shapes_within (n + 1) n

abbrev pub same_tree : Tree → Tree → Bool
same_tree (var v) (var w) = v == w
same_tree (var v) (op c d) = false
same_tree (op a b) (var w) = false
same_tree (op a b) (op c d) = same_tree a c && same_tree b d

-- of a law that is numbered by first occurrence: whether it is listed
abbrev pub is_first_reading : Ordering → Equation → Bool
is_first_reading Less p = true
is_first_reading Equal p =
    not (is_gt (slice_cmp nat_cmp (law_word p) (by_occurrence (law_word (exchanged p)))))
    && (not (same_tree p.left p.right) || (law_ops p == 0))
is_first_reading Greater p = false

abbrev pub is_listed : Equation → Bool
is_listed p = is_first_reading (shape_cmp (shape_of p.left) (shape_of p.right)) p

abbrev pub law_at : Shape × Shape → List ℕ → Equation
law_at s w = record { left = filled s.0 (take (shape_leaves s.0) w); right = filled s.1 (drop (shape_leaves s.0) w) }

-- of a word of a law whose sides have m variables each: whether the law is listed
abbrev pub is_kept : ℕ → List ℕ → Bool
is_kept m w =
    not (is_gt (slice_cmp nat_cmp w (by_occurrence (drop m w ++ take m w))))
    && (not (bytes_eq (take m w) (drop m w)) || (m == 1))

abbrev pub laws_at : Shape × Shape → List Equation
laws_at s = filter is_listed (map (law_at s) (words (shape_leaves s.0 + shape_leaves s.1) 0))

-- the listed laws of n operations, in order
abbrev pub laws_of : ℕ → List Equation
laws_of n = flat_map laws_at (pairs_from shapes n)

-- the listed laws of at most k operations, in order
unfoldable pub laws_upto : ℕ → List Equation
laws_upto k = flat_map laws_of (range_with_len 0 (k + 1))
