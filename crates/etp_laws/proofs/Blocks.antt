-- The laws of one pair of shapes, and how many they are.
use Rattle.std.proofs.Common.{◌≡◌, ℕ, ◌+◌, ◌<◌, ◌⊎◌, inl, inr, ◌++◌, List, [], ◌∷◌, map, filter, flat_map, length, length-append, take, drop, refl, sym, ◌∙◌, ap, arith, Bool, true, false, cond, not, All, get_or, zero, suc, ◌&&◌, ◌||◌, ◌==◌}
use Rattle.std.proofs.lemmas.Bool.{eqb-true, eq-eqb}
use Rattle.std.proofs.lemmas.List.{length-map, length-take, length-drop}
use Rattle.std.proofs.lemmas.Slice.Eq.{bytes_eq-Decides}
use Rattle.std.specs.Str.{bytes_eq}
use Rattle.std.specs.Cmp.Lexicographic.{slice_cmp}
use Rattle.std.specs.Ordering.{nat_cmp, is_gt}
use Rattle.std.specs.declared.cmp.Ordering.{Ordering}
use Rattle.std.specs.declared.cmp.Ordering.TheVariants.{Less, Equal, Greater}
use Rattle.etp_theory.specs.Trees.{Shape, leaf, fork, shape_of, shape_leaves, shape_ops, ops, word_of, law_word, law_ops, exchanged}
use Rattle.etp_theory.specs.Orders.{shape_cmp}
use Rattle.etp_laws.specs.Occurrences.{by_occurrence}
use Rattle.etp_laws.specs.Enumeration.{filled, words, pairs_from, shapes, same_tree, is_first_reading, is_listed, is_kept, law_at, laws_at, laws_of, laws_upto}
use Rattle.etp_theory.proofs.Orders.{shape_equal, shape_counts}
use Rattle.etp_laws.proofs.Canonical.{cases_Ordering}
use Rattle.etp_laws.proofs.Rising.{In, All-from_in}
use Rattle.etp_laws.proofs.Pairs.{pairs_are, AreShapes-shapes}
use Rattle.etp_laws.proofs.WordLemmas.{words_are, shape_of-filled, word_of-filled}
use Rattle.etp_laws.proofs.TheList.{same_tree-true, same_tree-itself, shapes_of-law_at, law_word-law_at}
use Rattle.etp_laws.specs.Places.{words_count}
use Rattle.etp_laws.proofs.Counting.{length-words}
use Rattle.etp_laws.proofs.Unique.{laws_upto_more}

-- a test of what a function gives is a test of the function's arguments
pub filter_map_by : {X Y : Type 0} (p : Y → Bool) (q : X → Bool) (f : X → Y) (xs : List X) → ((x : X) → In x xs → p (f x) ≡ q x) → filter p (map f xs) ≡ map f (filter q xs)
filter_map_by p q f [] h = refl
filter_map_by p q f (x ∷ xs) h =
    ap (λ b. cond b (f x ∷ filter p (map f xs)) (filter p (map f xs))) (h x (inl refl)) ∙ one (q x) (filter_map_by p q f xs (λ y k. h y (inr k)))
  where
    one : (b : Bool) → filter p (map f xs) ≡ map f (filter q xs) → cond b (f x ∷ filter p (map f xs)) (filter p (map f xs)) ≡ map f (cond b (x ∷ filter q xs) (filter q xs))
    one true e = ap (λ ys. f x ∷ ys) e
    one false e = e

filter_all : {X : Type 0} (xs : List X) → filter (λ _. true) xs ≡ xs
filter_all [] = refl
filter_all (x ∷ xs) = ap (λ ys. x ∷ ys) (filter_all xs)

filter_none : {X : Type 0} (xs : List X) → filter (λ _. false) xs ≡ []
filter_none [] = refl
filter_none (x ∷ xs) = filter_none xs

same_bool : (a b : Bool) → (a ≡ true → b ≡ true) → (b ≡ true → a ≡ true) → a ≡ b
same_bool true b f g = sym (f refl)
same_bool false true f g = g refl
same_bool false false f g = refl

pub shape_leaves-ops : (s : Shape) → shape_leaves s ≡ shape_ops s + 1
shape_leaves-ops leaf = refl
shape_leaves-ops (fork a b) = let x = shape_leaves-ops a in let y = shape_leaves-ops b in omega arith

pub ops-filled : (s : Shape) (w : List ℕ) → ops (filled s w) ≡ shape_ops s
ops-filled s w = sym (shape_counts (filled s w)) ∙ ap shape_ops (shape_of-filled s w)

pub order_at : (s : Shape × Shape) (w : List ℕ) → shape_cmp (shape_of (law_at s w).left) (shape_of (law_at s w).right) ≡ shape_cmp s.0 s.1
order_at s w = λ i. shape_cmp (shapes_of-law_at s w i).0 (shapes_of-law_at s w i).1

-- the listed laws of unequal shapes are all, or none
pub laws_at-less : (s : Shape × Shape) → shape_cmp s.0 s.1 ≡ Less → laws_at s ≡ map (law_at s) (words (shape_leaves s.0 + shape_leaves s.1) 0)
laws_at-less s e =
    let ws = words (shape_leaves s.0 + shape_leaves s.1) 0 in
    filter_map_by is_listed (λ _. true) (law_at s) ws (λ w _. ap (λ o. is_first_reading o (law_at s w)) (order_at s w ∙ e)) ∙ ap (map (law_at s)) (filter_all ws)

pub laws_at-greater : (s : Shape × Shape) → shape_cmp s.0 s.1 ≡ Greater → laws_at s ≡ []
laws_at-greater s e =
    let ws = words (shape_leaves s.0 + shape_leaves s.1) 0 in
    filter_map_by is_listed (λ _. false) (law_at s) ws (λ w _. ap (λ o. is_first_reading o (law_at s w)) (order_at s w ∙ e)) ∙ ap (map (law_at s)) (filter_none ws)

same_sides : (s : Shape) (u v : List ℕ) → length u ≡ shape_leaves s → length v ≡ shape_leaves s → same_tree (filled s u) (filled s v) ≡ bytes_eq u v
same_sides s u v a b =
    same_bool (same_tree (filled s u) (filled s v)) (bytes_eq u v)
    (λ e. (bytes_eq-Decides u v).1 (sym (word_of-filled s u a) ∙ ap word_of (same_tree-true (filled s u) (filled s v) e) ∙ word_of-filled s v b))
    (λ e. ap (λ x. same_tree (filled s u) (filled s x)) (sym ((bytes_eq-Decides u v).0 e)) ∙ same_tree-itself (filled s u))

no_operations : (a b m n : ℕ) → n ≡ a + b → m ≡ a + 1 → a ≡ b → (n == 0) ≡ (m == 1)
no_operations a b m n e h k =
    same_bool (n == 0) (m == 1) (λ t. let z = eqb-true n 0 t in eq-eqb m 1 (omega arith)) (λ t. let z = eqb-true m 1 t in eq-eqb n 0 (omega arith))

-- of equal shapes, those whose word is kept
pub kept_at : (s : Shape × Shape) (w : List ℕ) → s.0 ≡ s.1 → length w ≡ shape_leaves s.0 + shape_leaves s.1 → is_first_reading Equal (law_at s w) ≡ is_kept (shape_leaves s.0) w
kept_at s w e long =
    let m = shape_leaves s.0 in
    let same : shape_leaves s.1 ≡ shape_leaves s.0 = ap shape_leaves (sym e) in
    let front : length (take m w) ≡ shape_leaves s.0 = omega (arith, length-take m w) in
    let back : length (drop m w) ≡ shape_leaves s.0 = omega (arith, length-drop m w) in
    let back' : length (drop m w) ≡ shape_leaves s.1 = omega arith in
    let turned : law_word (exchanged (law_at s w)) ≡ drop m w ++ take m w = λ i. word_of-filled s.1 (drop m w) back' i ++ word_of-filled s.0 (take m w) front i in
    let sides : same_tree (law_at s w).left (law_at s w).right ≡ bytes_eq (take m w) (drop m w) = ap (λ t. same_tree (filled s.0 (take m w)) (filled t (drop m w))) (sym e) ∙ same_sides s.0 (take m w) (drop m w) front back in
    let number : (law_ops (law_at s w) == 0) ≡ (m == 1) = no_operations (shape_ops s.0) (shape_ops s.1) m (law_ops (law_at s w)) (λ i. ops-filled s.0 (take m w) i + ops-filled s.1 (drop m w) i) (shape_leaves-ops s.0) (ap shape_ops e) in
    (λ i. not (is_gt (slice_cmp nat_cmp (law_word-law_at s w long i) (by_occurrence (turned i)))) && (not (sides i) || number i))

pub laws_at-equal : (s : Shape × Shape) → shape_cmp s.0 s.1 ≡ Equal → laws_at s ≡ map (law_at s) (filter (is_kept (shape_leaves s.0)) (words (shape_leaves s.0 + shape_leaves s.1) 0))
laws_at-equal s e =
    let n = shape_leaves s.0 + shape_leaves s.1 in
    filter_map_by is_listed (is_kept (shape_leaves s.0)) (law_at s) (words n 0)
    (λ w k. ap (λ o. is_first_reading o (law_at s w)) (order_at s w ∙ e) ∙ kept_at s w (shape_equal s.0 s.1 e) (words_are n 0 w k).1)

-- how many laws two shapes give
size_by : Ordering → Shape × Shape → ℕ
size_by Less s = words_count (shape_leaves s.0 + shape_leaves s.1) 0
size_by Equal s = length (laws_at s)
size_by Greater s = 0

abbrev size : Shape × Shape → ℕ
size s = size_by (shape_cmp s.0 s.1) s

pub length-laws_at-less : (s : Shape × Shape) → shape_cmp s.0 s.1 ≡ Less → length (laws_at s) ≡ words_count (shape_leaves s.0 + shape_leaves s.1) 0
length-laws_at-less s e = let n = shape_leaves s.0 + shape_leaves s.1 in ap length (laws_at-less s e) ∙ length-map (words n 0) (law_at s) ∙ length-words n 0

length-laws_at : (s : Shape × Shape) → length (laws_at s) ≡ size s
unfolding size_by
length-laws_at s = by_cases (cases_Ordering (shape_cmp s.0 s.1))
  where
    by_cases : ((shape_cmp s.0 s.1 ≡ Less) ⊎ ((shape_cmp s.0 s.1 ≡ Equal) ⊎ (shape_cmp s.0 s.1 ≡ Greater))) → length (laws_at s) ≡ size_by (shape_cmp s.0 s.1) s
    by_cases (inl e) = length-laws_at-less s e ∙ sym (ap (λ o. size_by o s) e)
    by_cases (inr (inl e)) = sym (ap (λ o. size_by o s) e)
    by_cases (inr (inr e)) = ap length (laws_at-greater s e) ∙ sym (ap (λ o. size_by o s) e)

sizes : List (Shape × Shape) → ℕ
sizes [] = 0
sizes (s ∷ ss) = size s + sizes ss

length-flat_map_at : (ss : List (Shape × Shape)) → length (flat_map laws_at ss) ≡ sizes ss
unfolding sizes
length-flat_map_at [] = refl
length-flat_map_at (s ∷ ss) = length-append (laws_at s) (flat_map laws_at ss) ∙ (λ i. length-laws_at s i + length-flat_map_at ss i)

sizes_5 : sizes (pairs_from shapes 5) ≡ 57882
unfolding size_by sizes
sizes_5 = refl

-- the 66 pairs of shapes with five operations whose first is less, with 877 laws each
pub laws_of_5 : length (laws_of 5) ≡ 57882
laws_of_5 = length-flat_map_at (pairs_from shapes 5) ∙ sizes_5

pub laws_upto_4 : length (laws_upto 4) ≡ 4694
unfolding laws_upto
laws_upto_4 = refl

pub laws_upto_5 : length (laws_upto 5) ≡ 62576
laws_upto_5 =
    ap length (laws_upto_more 4) ∙ length-append (laws_upto 4) (laws_of 5) ∙ (λ i. laws_upto_4 i + laws_of_5 i)

-- the two shapes of one of the pairs of n operations together have n + 2 leaves
pub leaves_together : (n : ℕ) (p : Shape × Shape) → In p (pairs_from shapes n) → shape_leaves p.0 + shape_leaves p.1 ≡ n + 2
leaves_together n p h =
    let e = pairs_are shapes n (AreShapes-shapes n) p h in
    let a = shape_leaves-ops p.0 in
    let b = shape_leaves-ops p.1 in
    omega arith

pub In-at : {X : Type 0} (xs : List X) (i : ℕ) (d : X) → i < length xs → In (get_or xs i d) xs
In-at [] i d h = absurd (omega arith)
In-at (x ∷ xs) zero d h = inl refl
In-at (x ∷ xs) (suc i) d h = inr (In-at xs i d (omega arith))

pub words_fit : (n : ℕ) → All (λ w. length w ≡ n) (words n 0)
words_fit n = All-from_in (λ w. length w ≡ n) (words n 0) (λ w h. (words_are n 0 w h).1)
