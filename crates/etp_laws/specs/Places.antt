-- Where a law stands in the list, by counting: what the program does in place of a look through the list.
-- No public clause cites it but for `words_count`.
use Rattle.std.specs.Prelude.{ℕ, zero, suc, ◌+◌, ◌-◌, ◌*◌, ◌/◌, min, cond, List, [], ◌∷◌, length, map, filter, take, slice_index}
use Rattle.std.specs.Cmp.Lexicographic.{slice_cmp}
use Rattle.std.specs.Ordering.{nat_cmp, ordering_then, is_gt}
use Rattle.std.specs.declared.cmp.Ordering.{Ordering}
use Rattle.std.specs.declared.cmp.Ordering.TheVariants.{Less, Equal, Greater}
use Rattle.etp_theory.specs.Trees.{Tree, dual, Shape, leaf, fork, Equation, shape_of, shape_ops, law_word, law_dual, exchanged}
use Rattle.etp_theory.specs.Orders.{shape_cmp}
use Rattle.etp_laws.specs.declared.parts.Orientation.{Orientation}
use Rattle.etp_laws.specs.declared.parts.Orientation.TheVariants.{AsWritten, Mirrored}
use Rattle.etp_laws.specs.Occurrences.{by_occurrence}
use Rattle.etp_laws.specs.Enumeration.{used_after, words, shapes, is_kept}

-- how many words of n variables go on after `used` variables
abbrev pub words_count : ℕ → ℕ → ℕ
words_count zero used = 1
words_count (suc n) used = used * words_count n used + words_count n (used + 1)

-- how many words stand before w
abbrev pub rank : ℕ → List ℕ → ℕ
rank used [] = 0
rank used (v ∷ w) = v * words_count (length w) used + rank (used_after used v) w

-- the word of n variables before which i words stand
abbrev pub unrank : ℕ → ℕ → ℕ → List ℕ
unrank zero used i = []
unrank (suc n) used i =
    let v = min (i / words_count n used) used in v ∷ unrank n (used_after used v) (i - v * words_count n used)

-- how many pairs of shapes of n operations have a left one of fewer than i
abbrev pub pairs_below : ℕ → ℕ → ℕ
pairs_below n zero = 0
pairs_below n (suc i) = pairs_below n i + length (shapes i) * length (shapes (n - i))

-- how many shapes of as many operations stand before the shape
abbrev pub shape_rank : Shape → ℕ
shape_rank leaf = 0
shape_rank (fork a b) =
    pairs_below (shape_ops a + shape_ops b) (shape_ops a)
    + (shape_rank a * length (shapes (shape_ops b)) + shape_rank b)

-- how many laws of as many operations stand before those of two shapes, of i and j operations, with
-- x and y shapes of as many operations before them
abbrev pub block_start_by : Ordering → ℕ → ℕ → ℕ → ℕ → ℕ
block_start_by Less i j x y = (pairs_below (i + j) i + (x * length (shapes j) + y)) * words_count (i + j + 2) 0
block_start_by Equal i j x y = (pairs_below (i + j) i + x) * words_count (i + j + 2) 0 + y * 112
block_start_by Greater i j x y = 0

abbrev pub block_start : ℕ → ℕ → ℕ → ℕ → ℕ
block_start i j x y = block_start_by (nat_cmp i j) i j x y

-- how many of the listed laws of two shapes stand before the one of the word
abbrev pub place_in_block : Ordering → ℕ → List ℕ → ℕ
place_in_block Less m w = rank 0 w
place_in_block Equal m w = length (filter (is_kept m) (take (rank 0 w) (words (m + m) 0)))
place_in_block Greater m w = 0

-- how many laws have fewer than n operations, for n up to 5
abbrev pub laws_below : ℕ → ℕ
laws_below n = slice_index (0 ∷ 2 ∷ 7 ∷ 46 ∷ 410 ∷ 4694 ∷ []) n

-- how many laws stand before the listed one of two shapes, given in this way, and a word
abbrev pub place_from : ℕ → ℕ → ℕ → ℕ → List ℕ → ℕ
place_from i j x y w =
    laws_below (i + j) + (block_start i j x y + place_in_block (ordering_then (nat_cmp i j) (nat_cmp x y)) (i + 1) w)

abbrev pub place_at : Shape → Shape → List ℕ → ℕ
place_at a b w = place_from (shape_ops a) (shape_ops b) (shape_rank a) (shape_rank b) w

abbrev pub lesser : List ℕ → List ℕ → List ℕ
lesser u w = cond (is_gt (slice_cmp nat_cmp u w)) w u

-- the place of the law that is the same, from the order of the two sides' shapes
abbrev pub place_by : Ordering → Equation → ℕ
place_by Less p = place_at (shape_of p.left) (shape_of p.right) (by_occurrence (law_word p))
place_by Equal p =
    place_at (shape_of p.left) (shape_of p.right)
    (lesser (by_occurrence (law_word p)) (by_occurrence (law_word (exchanged p))))
place_by Greater p = place_at (shape_of p.right) (shape_of p.left) (by_occurrence (law_word (exchanged p)))

abbrev pub number_of : Equation → ℕ
number_of p = place_by (shape_cmp (shape_of p.left) (shape_of p.right)) p + 1

-- a term in this orientation: itself, or its dual
abbrev pub oriented : Orientation → Tree → Tree
oriented AsWritten t = t
oriented Mirrored t = dual t

-- the law of two terms, or its dual
abbrev pub oriented_law : Orientation → Tree → Tree → Equation
oriented_law orientation l r = record { left = oriented orientation l; right = oriented orientation r }

-- the numbers of the duals, by counting
unfoldable pub dual_numbers : List Equation → List ℕ
dual_numbers laws = map (λ e. number_of (law_dual e)) laws
