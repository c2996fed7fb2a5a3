-- How many laws stand before those of two shapes.
use Rattle.std.proofs.Common.{◌≡◌, ℕ, ◌+◌, ◌*◌, ◌<◌, ◌≤◌, ◌⊎◌, inl, inr, List, [], ◌∷◌, length, length-append, flat_map, take, drop, refl, sym, ◌∙◌, ap, subst, suc, zero, false, arith}
use Rattle.std.proofs.lemmas.Bool.{cases_order, true≢false}
use Rattle.std.specs.List.{range_with_len}
use Rattle.std.specs.Ordering.{is_gt, ordering_reverse}
use Rattle.std.specs.declared.cmp.Ordering.TheVariants.{Less}
use Rattle.etp_theory.specs.Trees.{Shape, leaf, fork, shape_ops, shape_leaves}
use Rattle.etp_theory.specs.Orders.{shape_cmp}
use Rattle.etp_theory.proofs.Comparing.{nat_cmp-less}
use Rattle.etp_laws.specs.Enumeration.{pairs_from, shapes, laws_at, laws_of}
use Rattle.etp_laws.specs.Places.{words_count, shape_rank, block_start_by, block_start, laws_below}
use Rattle.etp_theory.proofs.Orders.{shape_order}
use Rattle.etp_laws.proofs.Rising.{In}
use Rattle.etp_laws.proofs.Pairs.{shape_cmp-ops, pairs_are, AreShapes-shapes}
use Rattle.etp_laws.proofs.Blocks.{length-laws_at-less, leaves_together}
use Rattle.etp_laws.proofs.ShapePlaces.{before_pair}
use Rattle.etp_laws.proofs.Splits.{Split, In-before}

-- what stands before two shapes, and how many laws that is
pub record BlockBefore (a b : Shape) : Type 0 where
  pub before : List (Shape × Shape)
  pub split : Split (pairs_from shapes (shape_ops a + shape_ops b)) before (a, b)
  pub long : length (flat_map laws_at before) ≡ block_start (shape_ops a) (shape_ops b) (shape_rank a) (shape_rank b)

all_less : (m : ℕ) (ss : List (Shape × Shape)) → ((q : Shape × Shape) → In q ss → (shape_cmp q.0 q.1 ≡ Less) × (shape_leaves q.0 + shape_leaves q.1 ≡ m)) → length (flat_map laws_at ss) ≡ length ss * words_count m 0
all_less m [] h = omega arith
all_less m (s ∷ ss) h =
    let one : length (laws_at s) ≡ words_count m 0 = length-laws_at-less s (h s (inl refl)).0 ∙ ap (λ k. words_count k 0) (h s (inl refl)).1 in
    let rest = all_less m ss (λ q k. h q (inr k)) in
    length-append (laws_at s) (flat_map laws_at ss) ∙ (λ i. one i + rest i) ∙ more (length ss) (words_count m 0)
  where
    more : (a b : ℕ) → b + a * b ≡ suc a * b
    more a b = grind arith

-- before two shapes whose left one has fewer operations stand only such ones
before_less : (a b : Shape) (before : List (Shape × Shape)) → Split (pairs_from shapes (shape_ops a + shape_ops b)) before (a, b) → ((q : Shape × Shape) → In q before → shape_ops q.0 ≤ shape_ops a) → shape_ops a < shape_ops b → (q : Shape × Shape) → In q before → (shape_cmp q.0 q.1 ≡ Less) × (shape_leaves q.0 + shape_leaves q.1 ≡ shape_ops a + shape_ops b + 2)
before_less a b before split left h q k =
    let n : ℕ = shape_ops a + shape_ops b in
    let there = In-before (pairs_from shapes n) before (a, b) q split k in
    let sum = pairs_are shapes n (AreShapes-shapes n) q there in
    let l = left q k in
    (shape_cmp-ops q.0 q.1 (omega arith), leaves_together n q there)

unequal : (a b : Shape) → shape_ops a < shape_ops b → BlockBefore a b
unequal a b h =
    let p = before_pair a b in
    let n : ℕ = shape_ops a + shape_ops b in
    record {
      before = p.before;
      split = p.split;
      long = all_less (n + 2) p.before (before_less a b p.before p.split p.left h) ∙ ap (λ m. m * words_count (n + 2) 0) p.long ∙ ap (λ o. block_start_by o (shape_ops a) (shape_ops b) (shape_rank a) (shape_rank b)) (sym (nat_cmp-less (shape_ops a) (shape_ops b) h));
    }

-- the shapes of one operation, and of two
abbrev one : Shape
one = fork leaf leaf

abbrev right_comb : Shape
right_comb = fork leaf one

abbrev left_comb : Shape
left_comb = fork one leaf

-- the pairs of shapes of equally many operations, up to two each, whose left one is not greater
at_leaf : BlockBefore leaf leaf
at_leaf = record { before = []; split = record { after = []; is = refl }; long = refl }

at_one : BlockBefore one one
at_one = record { before = take 2 (pairs_from shapes 2); split = record { after = drop 3 (pairs_from shapes 2); is = refl }; long = refl }

at_right : BlockBefore right_comb right_comb
at_right = record { before = take 19 (pairs_from shapes 4); split = record { after = drop 20 (pairs_from shapes 4); is = refl }; long = refl }

at_both : BlockBefore right_comb left_comb
at_both = record { before = take 20 (pairs_from shapes 4); split = record { after = drop 21 (pairs_from shapes 4); is = refl }; long = refl }

at_left : BlockBefore left_comb left_comb
at_left = record { before = take 22 (pairs_from shapes 4); split = record { after = drop 23 (pairs_from shapes 4); is = refl }; long = refl }

moved_to : (a b c d : Shape) → a ≡ c → b ≡ d → BlockBefore c d → BlockBefore a b
moved_to a b c d e h x = subst (λ s. BlockBefore s b) (sym e) (subst (λ s. BlockBefore c s) (sym h) x)

equal : (i : ℕ) (a b : Shape) → i ≤ 2 → In a (shapes i) → In b (shapes i) → is_gt (shape_cmp a b) ≡ false → BlockBefore a b
equal zero a b h (inl e) (inl f) g = moved_to a b leaf leaf e f at_leaf
equal zero a b h (inl e) (inr f) g = absurd f
equal zero a b h (inr e) f g = absurd e
equal (suc zero) a b h (inl e) (inl f) g = moved_to a b one one e f at_one
equal (suc zero) a b h (inl e) (inr f) g = absurd f
equal (suc zero) a b h (inr e) f g = absurd e
equal (suc (suc zero)) a b h (inl e) (inl f) g = moved_to a b right_comb right_comb e f at_right
equal (suc (suc zero)) a b h (inl e) (inr (inl f)) g = moved_to a b right_comb left_comb e f at_both
equal (suc (suc zero)) a b h (inl e) (inr (inr f)) g = absurd f
equal (suc (suc zero)) a b h (inr (inl e)) (inl f) g = absurd (true≢false (sym (λ i. is_gt (shape_cmp (e i) (f i))) ∙ g))
equal (suc (suc zero)) a b h (inr (inl e)) (inr (inl f)) g = moved_to a b left_comb left_comb e f at_left
equal (suc (suc zero)) a b h (inr (inl e)) (inr (inr f)) g = absurd f
equal (suc (suc zero)) a b h (inr (inr e)) f g = absurd e
equal (suc (suc (suc i))) a b h k l g = absurd (omega arith)

pub block_before : (a b : Shape) → shape_ops a + shape_ops b ≤ 5 → is_gt (shape_cmp a b) ≡ false → BlockBefore a b
block_before a b small g = by_cases (cases_order (shape_ops a) (shape_ops b))
  where
    by_cases : ((shape_ops a ≡ shape_ops b) ⊎ ((shape_ops a < shape_ops b) ⊎ (shape_ops b < shape_ops a))) → BlockBefore a b
    by_cases (inl e) =
        equal (shape_ops a) a b (omega arith) ((AreShapes-shapes (shape_ops a)).complete (shape_ops a) a (omega arith) refl) ((AreShapes-shapes (shape_ops a)).complete (shape_ops a) b (omega arith) (sym e)) g
    by_cases (inr (inl l)) = unequal a b l
    by_cases (inr (inr l)) = absurd (true≢false (sym (ap is_gt (shape_order.antisymm a b ∙ ap ordering_reverse (shape_cmp-ops b a l))) ∙ g))

pub laws_below_are : (n : ℕ) → n ≤ 5 → length (flat_map laws_of (range_with_len 0 n)) ≡ laws_below n
laws_below_are zero h = refl
laws_below_are (suc zero) h = refl
laws_below_are (suc (suc zero)) h = refl
laws_below_are (suc (suc (suc zero))) h = refl
laws_below_are (suc (suc (suc (suc zero)))) h = refl
laws_below_are (suc (suc (suc (suc (suc zero))))) h = refl
laws_below_are (suc (suc (suc (suc (suc (suc n)))))) h = absurd (omega arith)
