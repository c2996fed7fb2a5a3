use Rattle.std.proofs.Common.{◌≡◌, ◌≢◌, ℕ, ◌+◌, ◌<◌, ◌≤◌, ◌⊎◌, inl, inr, ◌++◌, List, [], ◌∷◌, map, length, take, drop, refl, sym, ◌∙◌, ap, subst, arith, true, false, not, ◌==◌, ◌||◌}
use Rattle.std.proofs.lemmas.Bool.{true≢false, cases_Bool, and_parts, and_from, or_left, or_right, eqb-true, eq-eqb, not-true, false_from_ne_true, not_from_false}
use Rattle.std.proofs.lemmas.Bool.Decides.{nat_tests}
use Rattle.std.proofs.lemmas.Cmp.{tied_itself}
use Rattle.std.proofs.lemmas.List.Kept.{IsStrictlySortedBy-filter}
use Rattle.std.specs.List.{range_with_len}
use Rattle.std.specs.List.Sorted.{IsStrictlySortedBy}
use Rattle.std.specs.Cmp.Lexicographic.{slice_cmp}
use Rattle.std.specs.Ordering.{nat_cmp, ordering_then, is_gt}
use Rattle.std.specs.declared.cmp.Ordering.{Ordering}
use Rattle.std.specs.declared.cmp.Ordering.TheVariants.{Less, Equal, Greater}
use Rattle.etp_theory.specs.Orders.{shape_cmp, law_cmp}
use Rattle.etp_theory.specs.Trees.{Tree, var, op, Shape, fork, Equation, shape_of, word_of, law_word, shape_ops, ops, law_ops, exchanged, shape_leaves}
use Rattle.etp_term.proofs.WordOrder.{length-word_of}
use Rattle.etp_laws.specs.Enumeration.{words, pairs_from, joined, shapes, same_tree, is_first_reading, is_listed, law_at, laws_at, laws_of, laws_upto}
use Rattle.etp_laws.specs.Listing.{Listed, IsTheList, reflexive_law}
use Rattle.etp_laws.specs.Occurrences.{by_occurrence, Grows}
use Rattle.etp_laws.specs.Canonical.{IsCanonical}
use Rattle.etp_theory.proofs.Comparing.{nat_cmp-less, less_below, less_not_equal, then_assoc}
use Rattle.etp_theory.proofs.Orders.{shape_order, shape_equal, shape_counts}
use Rattle.etp_laws.proofs.Occurrences.{zero_min, Grows-by_occurrence_after, by_occurrence_after-Grows}
use Rattle.etp_laws.proofs.Canonical.{cases_Ordering, canonical_from_listed, listed_from_canonical}
use Rattle.etp_laws.proofs.Rising.{In, In-map, In-map_source, In-flat_map, In-flat_map_source, In-filter, In-filter_source, In-range, In-range_bounds, Rising-map, Rising-flat_map, Rising-range, Contains-from_in, All-from_in}
use Rattle.etp_laws.proofs.WordLemmas.{In-words, words_are, Rising-words, shape_of-filled, word_of-filled, filled-word_of}
use Rattle.etp_laws.proofs.Pairs.{pair_cmp, pairs_are, In-pairs, Rising-pairs, AreShapes-shapes}

pub same_tree-true : (t u : Tree) → same_tree t u ≡ true → t ≡ u
same_tree-true (var v) (var w) e = ap var (eqb-true v w e)
same_tree-true (var v) (op c d) e = absurd (true≢false (sym e))
same_tree-true (op a b) (var w) e = absurd (true≢false (sym e))
same_tree-true (op a b) (op c d) e =
    let h = and_parts (same_tree a c) (same_tree b d) e in
    (λ i. op (same_tree-true a c h.0 i) (same_tree-true b d h.1 i))

pub same_tree-itself : (t : Tree) → same_tree t t ≡ true
same_tree-itself (var v) = eq-eqb v v refl
same_tree-itself (op a b) = and_from (same_tree a a) (same_tree b b) (same_tree-itself a) (same_tree-itself b)

-- a numbered law of no operation with equal sides is `x = x`
reflexive_from : (l r : Tree) → same_tree l r ≡ true → ops l + ops r ≡ 0 → by_occurrence (word_of l ++ word_of r) ≡ word_of l ++ word_of r → (let p : Equation = record { left = l; right = r } in p ≡ reflexive_law)
reflexive_from (var v) (var w) e z n = let a = eqb-true v w e in let b : 0 ≡ v = first n in (λ i. record { left = var ((sym b) i); right = var ((sym a ∙ sym b) i) })
  where
    first : by_occurrence (v ∷ w ∷ []) ≡ v ∷ w ∷ [] → 0 ≡ v
    first h = cc
reflexive_from (var v) (op c d) e z n = absurd (true≢false (sym e))
reflexive_from (op a b) (var w) e z n = absurd (true≢false (sym e))
reflexive_from (op a b) (op c d) e z n = absurd (omega arith)

pub canonical_from_test : (p : Equation) → by_occurrence (law_word p) ≡ law_word p → is_listed p ≡ true → IsCanonical p
canonical_from_test p n h = by_cases (cases_Ordering (shape_cmp (shape_of p.left) (shape_of p.right)))
  where
    at : (o : Ordering) → shape_cmp (shape_of p.left) (shape_of p.right) ≡ o → is_first_reading o p ≡ true
    at o e = ap (λ x. is_first_reading x p) (sym e) ∙ h

    differ : (p.left ≡ p.right → ⊥) → (p.left ≢ p.right) ⊎ (p ≡ reflexive_law)
    differ k = inl k

    by_sides : (same_tree p.left p.right ≡ true) ⊎ (same_tree p.left p.right ≡ false) → (not (same_tree p.left p.right) || (law_ops p == 0)) ≡ true → (p.left ≢ p.right) ⊎ (p ≡ reflexive_law)
    by_sides (inl s) k = inr (reflexive_from p.left p.right s (eqb-true (law_ops p) 0 (ap (λ b. not b || (law_ops p == 0)) (sym s) ∙ k)) n)
    by_sides (inr s) k = inl (λ e. true≢false (sym (ap (same_tree p.left) (sym e) ∙ same_tree-itself p.left) ∙ s))

    by_cases : ((shape_cmp (shape_of p.left) (shape_of p.right) ≡ Less) ⊎ ((shape_cmp (shape_of p.left) (shape_of p.right) ≡ Equal) ⊎ (shape_cmp (shape_of p.left) (shape_of p.right) ≡ Greater))) → IsCanonical p
    by_cases (inl e) = record {
      occurrences = n;
      shapes = ap is_gt e;
      words = λ s. absurd (less_not_equal (sym e ∙ (λ i. shape_cmp (s i) (shape_of p.right)) ∙ tied_itself shape_order (shape_of p.right)));
      sides = inl (λ s. less_not_equal (sym e ∙ (λ i. shape_cmp (shape_of (s i)) (shape_of p.right)) ∙ tied_itself shape_order (shape_of p.right)));
    }
    by_cases (inr (inl e)) =
        let k = and_parts (not (is_gt (slice_cmp nat_cmp (law_word p) (by_occurrence (law_word (exchanged p)))))) (not (same_tree p.left p.right) || (law_ops p == 0)) (at Equal e) in
        record {
          occurrences = n;
          shapes = ap is_gt e;
          words = λ s. not-true _ k.0;
          sides = by_sides (cases_Bool (same_tree p.left p.right)) k.1;
        }
    by_cases (inr (inr e)) = absurd (true≢false (sym (at Greater e)))

pub test_from_canonical : (p : Equation) → IsCanonical p → is_listed p ≡ true
test_from_canonical p c = by_cases (cases_Ordering (shape_cmp (shape_of p.left) (shape_of p.right)))
  where
    by_sides : ((p.left ≢ p.right) ⊎ (p ≡ reflexive_law)) → (not (same_tree p.left p.right) || (law_ops p == 0)) ≡ true
    by_sides (inl k) = or_left (not (same_tree p.left p.right)) (law_ops p == 0) (not_from_false _ (false_from_ne_true _ (λ e. k (same_tree-true p.left p.right e))))
    by_sides (inr e) = or_right (not (same_tree p.left p.right)) (law_ops p == 0) (ap (λ q. law_ops q == 0) e)

    by_cases : ((shape_cmp (shape_of p.left) (shape_of p.right) ≡ Less) ⊎ ((shape_cmp (shape_of p.left) (shape_of p.right) ≡ Equal) ⊎ (shape_cmp (shape_of p.left) (shape_of p.right) ≡ Greater))) → is_listed p ≡ true
    by_cases (inl e) = ap (λ o. is_first_reading o p) e
    by_cases (inr (inl e)) =
        ap (λ o. is_first_reading o p) e
        ∙ and_from _ _ (not_from_false _ (c.words (shape_equal (shape_of p.left) (shape_of p.right) e))) (by_sides c.sides)
    by_cases (inr (inr e)) = absurd (true≢false (sym (ap is_gt e) ∙ c.shapes))

nat_cmp_add : (a b : ℕ) → nat_cmp (a + 1) (b + 1) ≡ nat_cmp a b
nat_cmp_add a b = grind (arith, nat_tests)

abbrev shapes_of : Equation → Shape × Shape
shapes_of p = (shape_of p.left, shape_of p.right)

ops-shapes_of : (p : Equation) → shape_ops (shape_of p.left) + shape_ops (shape_of p.right) ≡ law_ops p
ops-shapes_of p = λ i. shape_counts p.left i + shape_counts p.right i

-- laws are ordered by their pair of shapes, then by their word
pub law_cmp-pair : (p q : Equation) → law_cmp p q ≡ ordering_then (pair_cmp (shapes_of p) (shapes_of q)) (slice_cmp nat_cmp (law_word p) (law_word q))
law_cmp-pair p q =
    sym
    ((λ i. ordering_then (ordering_then (numbers i) (ordering_then (shape_cmp (shape_of p.left) (shape_of q.left)) (shape_cmp (shape_of p.right) (shape_of q.right)))) (slice_cmp nat_cmp (law_word p) (law_word q)))
    ∙ then_assoc (nat_cmp (law_ops p) (law_ops q)) _ _
    ∙ ap (ordering_then (nat_cmp (law_ops p) (law_ops q))) (then_assoc (shape_cmp (shape_of p.left) (shape_of q.left)) _ _))
  where
    numbers : nat_cmp (shape_ops (shape_of p.left) + shape_ops (shape_of p.right) + 1) (shape_ops (shape_of q.left) + shape_ops (shape_of q.right) + 1) ≡ nat_cmp (law_ops p) (law_ops q)
    numbers = nat_cmp_add (shape_ops (shape_of p.left) + shape_ops (shape_of p.right)) (shape_ops (shape_of q.left) + shape_ops (shape_of q.right)) ∙ (λ i. nat_cmp (ops-shapes_of p i) (ops-shapes_of q i))

law_cmp-ops : (p q : Equation) → law_ops p < law_ops q → law_cmp p q ≡ Less
law_cmp-ops p q h = ap (λ o. ordering_then o (ordering_then (shape_cmp (shape_of p.left) (shape_of q.left)) (ordering_then (shape_cmp (shape_of p.right) (shape_of q.right)) (slice_cmp nat_cmp (law_word p) (law_word q))))) (nat_cmp-less (law_ops p) (law_ops q) h)

-- the law at a pair of shapes and a word has them
pub shapes_of-law_at : (s : Shape × Shape) (w : List ℕ) → shapes_of (law_at s w) ≡ s
shapes_of-law_at s w = λ i. (shape_of-filled s.0 (take (shape_leaves s.0) w) i, shape_of-filled s.1 (drop (shape_leaves s.0) w) i)

pub law_word-law_at : (s : Shape × Shape) (w : List ℕ) → length w ≡ shape_leaves s.0 + shape_leaves s.1 → law_word (law_at s w) ≡ w
law_word-law_at s w e = word_of-filled (fork s.0 s.1) w e

pub law_at-shapes_of : (p : Equation) → law_at (shapes_of p) (law_word p) ≡ p
law_at-shapes_of p = λ i. sides_of (filled-word_of (op p.left p.right) i)
  where
    sides_of : Tree → Equation
    sides_of (op l r) = record { left = l; right = r }
    sides_of (var v) = reflexive_law

record FromPair (s : Shape × Shape) (p : Equation) : Type 0 where
  word : List ℕ
  grows : Grows 0 word
  long : length word ≡ shape_leaves s.0 + shape_leaves s.1
  is : p ≡ law_at s word
  passes : is_listed p ≡ true

laws_at_are : (s : Shape × Shape) (p : Equation) → In p (laws_at s) → FromPair s p
laws_at_are s p h =
    let f = In-filter_source is_listed p (map (law_at s) (words (shape_leaves s.0 + shape_leaves s.1) 0)) h in
    let m = In-map_source (law_at s) p (words (shape_leaves s.0 + shape_leaves s.1) 0) f.0 in
    let w = words_are (shape_leaves s.0 + shape_leaves s.1) 0 m.0 m.1 in
    record { word = m.0; grows = w.0; long = w.1; is = m.2; passes = f.1 }

shapes_are : (s : Shape × Shape) (p : Equation) → FromPair s p → shapes_of p ≡ s
shapes_are s p f = ap shapes_of f.is ∙ shapes_of-law_at s f.word

word_is : (s : Shape × Shape) (p : Equation) (f : FromPair s p) → law_word p ≡ f.word
word_is s p f = ap law_word f.is ∙ law_word-law_at s f.word f.long

Rising-laws_at : (s : Shape × Shape) → IsStrictlySortedBy law_cmp (laws_at s)
Rising-laws_at s =
    IsStrictlySortedBy-filter law_cmp is_listed (map (law_at s) (words (shape_leaves s.0 + shape_leaves s.1) 0))
    (Rising-map (slice_cmp nat_cmp) law_cmp (law_at s) (words (shape_leaves s.0 + shape_leaves s.1) 0) (Rising-words (shape_leaves s.0 + shape_leaves s.1) 0)
    (λ x y i j e.
    law_cmp-pair (law_at s x) (law_at s y)
    ∙ (λ d. ordering_then (pair_cmp (shapes_of-law_at s x d) (shapes_of-law_at s y d)) (slice_cmp nat_cmp (law_word-law_at s x (words_are (shape_leaves s.0 + shape_leaves s.1) 0 x i).1 d) (law_word-law_at s y (words_are (shape_leaves s.0 + shape_leaves s.1) 0 y j).1 d)))
    ∙ ap (λ o. ordering_then o (slice_cmp nat_cmp x y)) (tied_itself shape_order (joined s)) ∙ e))

pub Rising-laws_of : (n : ℕ) → IsStrictlySortedBy law_cmp (laws_of n)
Rising-laws_of n =
    Rising-flat_map pair_cmp law_cmp laws_at (pairs_from shapes n) (Rising-pairs shapes n (AreShapes-shapes n))
    (λ s i. Rising-laws_at s)
    (λ s t p q i j e k l.
    law_cmp-pair p q
    ∙ (λ d. ordering_then (pair_cmp (shapes_are s p (laws_at_are s p k) d) (shapes_are t q (laws_at_are t q l) d)) (slice_cmp nat_cmp (law_word p) (law_word q)))
    ∙ ap (λ o. ordering_then o (slice_cmp nat_cmp (law_word p) (law_word q))) e)

pub laws_of_are : (n : ℕ) (p : Equation) → In p (laws_of n) → Listed p × (law_ops p ≡ n)
laws_of_are n p h =
    let r = In-flat_map_source laws_at p (pairs_from shapes n) h in
    let f = laws_at_are r.0 p r.2 in
    let w = word_is r.0 p f in
    let o = pairs_are shapes n (AreShapes-shapes n) r.0 r.1 in
    let s = shapes_are r.0 p f in
    let l = ops-shapes_of p in
    let same : shape_ops (shape_of p.left) + shape_ops (shape_of p.right) ≡ shape_ops r.0.0 + shape_ops r.0.1 = ap (λ (t : Shape × Shape). shape_ops t.0 + shape_ops t.1) s in
    let by_occurrence_word : by_occurrence (law_word p) ≡ law_word p = ap by_occurrence w ∙ by_occurrence_after-Grows f.word [] (λ y. zero_min y) f.grows ∙ sym w in
    (listed_from_canonical p (canonical_from_test p by_occurrence_word f.passes), omega arith)

pub In-laws_of : (p : Equation) → Listed p → In p (laws_of (law_ops p))
In-laws_of p listed =
    let c = canonical_from_listed p listed in
    let s = shapes_of p in
    let long : length (law_word p) ≡ shape_leaves (shape_of p.left) + shape_leaves (shape_of p.right) = length-word_of (op p.left p.right) in
    let grows : Grows 0 (law_word p) = subst (Grows 0) c.occurrences (Grows-by_occurrence_after (law_word p) []) in
    In-flat_map laws_at (shapes_of p) p (pairs_from shapes (law_ops p))
    (In-pairs shapes (law_ops p) (AreShapes-shapes (law_ops p)) (shape_of p.left) (shape_of p.right) (ops-shapes_of p))
    (In-filter is_listed p (map (law_at (shapes_of p)) (words (shape_leaves (shape_of p.left) + shape_leaves (shape_of p.right)) 0))
    (subst (λ q. In q (map (law_at (shapes_of p)) (words (shape_leaves (shape_of p.left) + shape_leaves (shape_of p.right)) 0))) (law_at-shapes_of p)
    (In-map (law_at (shapes_of p)) (law_word p) (words (shape_leaves (shape_of p.left) + shape_leaves (shape_of p.right)) 0) (In-words (shape_leaves (shape_of p.left) + shape_leaves (shape_of p.right)) 0 (law_word p) grows long)))
    (test_from_canonical p c))

pub Rising-laws_upto : (k : ℕ) → IsStrictlySortedBy law_cmp (laws_upto k)
unfolding laws_upto
Rising-laws_upto k =
    Rising-flat_map nat_cmp law_cmp laws_of (range_with_len 0 (k + 1)) (Rising-range 0 (k + 1)) (λ n i. Rising-laws_of n)
    (λ m n p q i j e h l.
    let a = (laws_of_are m p h).1 in let b = (laws_of_are n q l).1 in
    let lt = less_below m n e in law_cmp-ops p q (omega arith))

-- the enumeration is the list
pub laws_upto_is : (k : ℕ) → IsTheList k (laws_upto k)
unfolding laws_upto
laws_upto_is k = record {
  rising = Rising-laws_upto k;
  sound = All-from_in Listed (laws_upto k) (λ p h. let r = In-flat_map_source laws_of p (range_with_len 0 (k + 1)) h in (laws_of_are r.0 p r.2).0);
  small = All-from_in (λ p. law_ops p ≤ k) (laws_upto k) (λ p h.
      let r = In-flat_map_source laws_of p (range_with_len 0 (k + 1)) h in
      let b = In-range_bounds r.0 0 (k + 1) r.1 in
      let e = (laws_of_are r.0 p r.2).1 in omega arith);
  complete = λ p listed h.
      Contains-from_in p (laws_upto k)
      (In-flat_map laws_of (law_ops p) p (range_with_len 0 (k + 1)) (In-range (law_ops p) 0 (k + 1) (omega arith) (omega arith)) (In-laws_of p listed));
}
