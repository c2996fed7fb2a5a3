-- The places of shapes and of pairs of shapes.
use Rattle.std.proofs.Common.{◌≡◌, ℕ, ◌+◌, ◌-◌, ◌*◌, ◌<◌, ◌≤◌, ◌⊎◌, inl, inr, ◌++◌, List, [], ◌∷◌, length, length-append, map, flat_map, refl, sym, ◌∙◌, ap, subst, suc, zero, arith}
use Rattle.std.proofs.lemmas.List.{length-map}
use Rattle.std.proofs.lemmas.Bool.{cases_order}
use Rattle.std.proofs.lemmas.Cmp.{tied_itself}
use Rattle.std.specs.List.{range_with_len}
use Rattle.std.specs.Ordering.{nat_cmp, ordering_then, ordering_reverse}
use Rattle.std.specs.declared.cmp.Ordering.TheVariants.{Less}
use Rattle.etp_theory.specs.Orders.{shape_cmp}
use Rattle.etp_theory.proofs.Orders.{shape_order}
use Rattle.etp_theory.specs.Trees.{Shape, leaf, fork, shape_ops}
use Rattle.etp_theory.proofs.Comparing.{nat_cmp-less, nat_cmp-equal, nat_cmp-greater}
use Rattle.etp_laws.specs.Enumeration.{pairs_from, joined, shapes}
use Rattle.etp_laws.specs.Places.{pairs_below, shape_rank}
use Rattle.etp_laws.proofs.Rising.{In, In-append_cases, In-map_source, In-flat_map_source, In-range_bounds}
use Rattle.etp_laws.proofs.Pairs.{shape_cmp-ops, AreShapes-shapes}
use Rattle.etp_laws.proofs.EnumerationLemmas.{flat_map_range_more, joined_pairs}
use Rattle.etp_laws.proofs.Splits.{Split, Split-map, Split-flat_map, Split-range, Split-length, Split-earlier, Split-same, Split-less, In-before}

-- each of the first with each of the second
abbrev products : List Shape → List Shape → List (Shape × Shape)
products xs ys = flat_map (λ x. map (λ y. (x, y)) ys) xs

abbrev paired : Shape → List Shape → List (Shape × Shape)
paired x ys = map (λ y. (x, y)) ys

length-products : (xs ys : List Shape) → length (products xs ys) ≡ length xs * length ys
length-products [] ys = omega arith
length-products (x ∷ xs) ys =
    let first : length (paired x ys) ≡ length ys = length-map {B = Shape × Shape} ys (λ y. (x, y)) in
    let rest = length-products xs ys in
    length-append (paired x ys) (products xs ys) ∙ (λ i. first i + rest i) ∙ more (length xs) (length ys)
  where
    more : (a b : ℕ) → b + a * b ≡ suc a * b
    more a b = grind arith

-- the pairs of n operations whose left shape has i
abbrev pairs_with : ℕ → ℕ → List (Shape × Shape)
pairs_with n i = products (shapes i) (shapes (n - i))

length-pairs_below : (n i : ℕ) → length (flat_map (pairs_with n) (range_with_len 0 i)) ≡ pairs_below n i
length-pairs_below n zero = refl
length-pairs_below n (suc i) =
    let next : suc i ≡ i + 1 = omega arith in
    let before = length-pairs_below n i in
    let here = length-products (shapes i) (shapes (n - i)) in
    ap (λ m. length (flat_map (pairs_with n) (range_with_len 0 m))) next ∙ ap length (flat_map_range_more (pairs_with n) i) ∙ length-append (flat_map (pairs_with n) (range_with_len 0 i)) (pairs_with n i)
    ∙ (λ d. before d + here d)

-- what stands before a shape among those of as many operations
pub record ShapeBefore (s : Shape) : Type 0 where
  pub before : List Shape
  pub split : Split (shapes (shape_ops s)) before s
  pub long : length before ≡ shape_rank s

-- what stands before a pair of shapes among those of as many operations together
pub record PairBefore (a b : Shape) : Type 0 where
  pub before : List (Shape × Shape)
  pub split : Split (pairs_from shapes (shape_ops a + shape_ops b)) before (a, b)
  pub long : length before ≡ pairs_below (shape_ops a + shape_ops b) (shape_ops a) + (shape_rank a * length (shapes (shape_ops b)) + shape_rank b)
  pub left : (q : Shape × Shape) → In q before → shape_ops q.0 ≤ shape_ops a

pair_before : (a b : Shape) → ShapeBefore a → ShapeBefore b → PairBefore a b
pair_before a b x y = record {
  before = flat_map F (range_with_len 0 i) ++ (flat_map G x.before ++ map (λ d. (a, d)) y.before);
  split = Split-flat_map F (range_with_len 0 (n + 1)) (range_with_len 0 i) i (flat_map G x.before ++ map (λ d. (a, d)) y.before) (a, b)
      (Split-range 0 i (n + 1) i (omega arith) (omega arith))
      (Split-flat_map G (shapes i) x.before a (map (λ d. (a, d)) y.before) (a, b) x.split (Split-map {Y = Shape × Shape} (λ d. (a, d)) (shapes (n - i)) y.before b right));
  long =
      length-append (flat_map F (range_with_len 0 i)) (flat_map G x.before ++ map (λ d. (a, d)) y.before)
      ∙ (λ d. length-pairs_below n i d + (length-append (flat_map G x.before) (map (λ d. (a, d)) y.before) ∙ (λ e. (length-products x.before (shapes (n - i)) ∙ (λ f. x.long f * length (shapes (rest f)))) e + (length-map {B = Shape × Shape} y.before (λ d. (a, d)) ∙ y.long) e)) d);
  left = λ q h. by_cases q (In-append_cases q (flat_map F (range_with_len 0 i)) (flat_map G x.before ++ map (λ d. (a, d)) y.before) h);
}
  where
    n : ℕ
    n = shape_ops a + shape_ops b

    i : ℕ
    i = shape_ops a

    F : ℕ → List (Shape × Shape)
    F j = flat_map (λ c. map (λ d. (c, d)) (shapes (n - j))) (shapes j)

    G : Shape → List (Shape × Shape)
    G c = map (λ d. (c, d)) (shapes (n - i))

    rest : n - i ≡ shape_ops b
    rest = omega arith

    right : Split (shapes (n - i)) y.before b
    right = subst (λ m. Split (shapes m) y.before b) (sym rest) y.split

    by_parts : (q : Shape × Shape) → In q (flat_map G x.before) ⊎ In q (map (λ d. (a, d)) y.before) → shape_ops q.0 ≤ i
    by_parts q (inl h) =
        let r = In-flat_map_source G q x.before h in
        let t = In-map_source {Y = Shape × Shape} (λ d. (r.0, d)) q (shapes (n - i)) r.2 in
        let e = (AreShapes-shapes i).sound i r.0 (omega arith) (In-before (shapes i) x.before a r.0 x.split r.1) in
        let z : shape_ops q.0 ≡ shape_ops r.0 = ap (λ (p : Shape × Shape). shape_ops p.0) t.2 in
        omega arith
    by_parts q (inr h) =
        let t = In-map_source {Y = Shape × Shape} (λ d. (a, d)) q y.before h in
        let z : shape_ops q.0 ≡ shape_ops a = ap (λ (p : Shape × Shape). shape_ops p.0) t.2 in
        omega arith

    by_cases : (q : Shape × Shape) → In q (flat_map F (range_with_len 0 i)) ⊎ In q (flat_map G x.before ++ map (λ d. (a, d)) y.before) → shape_ops q.0 ≤ i
    by_cases q (inl h) =
        let r = In-flat_map_source F q (range_with_len 0 i) h in
        let l = In-range_bounds r.0 0 i r.1 in
        let s = In-flat_map_source (λ c. map (λ d. (c, d)) (shapes (n - r.0))) q (shapes r.0) r.2 in
        let t = In-map_source {Y = Shape × Shape} (λ d. (s.0, d)) q (shapes (n - r.0)) s.2 in
        let e = (AreShapes-shapes r.0).sound r.0 s.0 (omega arith) s.1 in
        let z : shape_ops q.0 ≡ shape_ops s.0 = ap (λ (p : Shape × Shape). shape_ops p.0) t.2 in
        omega arith
    by_cases q (inr h) = by_parts q (In-append_cases q (flat_map G x.before) (map (λ d. (a, d)) y.before) h)

pub shape_before : (s : Shape) → ShapeBefore s
shape_before leaf = record { before = []; split = record { after = []; is = refl }; long = refl }
shape_before (fork a b) =
    let p = pair_before a b (shape_before a) (shape_before b) in
    record {
      before = map joined p.before;
      split = subst (λ ss. Split ss (map joined p.before) (fork a b)) (joined_pairs (shape_ops a + shape_ops b)) (Split-map joined (pairs_from shapes (shape_ops a + shape_ops b)) p.before (a, b) p.split);
      long = length-map p.before joined ∙ p.long;
    }

pub before_pair : (a b : Shape) → PairBefore a b
before_pair a b = pair_before a b (shape_before a) (shape_before b)

pub shape_rank-below : (s : Shape) → shape_rank s < length (shapes (shape_ops s))
shape_rank-below s = let b = shape_before s in let l = Split-length (shapes (shape_ops s)) b.before s b.split in let e = b.long in omega arith

rank_less : (a b : Shape) → shape_ops a ≡ shape_ops b → shape_rank a < shape_rank b → shape_cmp a b ≡ Less
rank_less a b e l =
    let x = shape_before a in
    let y = shape_before b in
    let s : Split (shapes (shape_ops b)) x.before a = subst (λ n. Split (shapes n) x.before a) e x.split in
    let m : length x.before < length y.before = (let p = x.long in let q = y.long in omega arith) in
    Split-less shape_cmp (shapes (shape_ops b)) y.before b a y.split ((AreShapes-shapes (shape_ops b)).rising (shape_ops b) (omega arith)) (Split-earlier (shapes (shape_ops b)) x.before y.before a b s y.split m)

rank_same : (a b : Shape) → shape_ops a ≡ shape_ops b → shape_rank a ≡ shape_rank b → a ≡ b
rank_same a b e l =
    let x = shape_before a in
    let y = shape_before b in
    Split-same (shapes (shape_ops b)) x.before y.before a b (subst (λ n. Split (shapes n) x.before a) e x.split) y.split (x.long ∙ l ∙ sym y.long)

-- shapes are ordered by their operations, then by how many stand before them
pub shape_cmp-ranks : (a b : Shape) → ordering_then (nat_cmp (shape_ops a) (shape_ops b)) (nat_cmp (shape_rank a) (shape_rank b)) ≡ shape_cmp a b
shape_cmp-ranks a b = by_ops (cases_order (shape_ops a) (shape_ops b))
  where
    by_rank : shape_ops a ≡ shape_ops b → ((shape_rank a ≡ shape_rank b) ⊎ ((shape_rank a < shape_rank b) ⊎ (shape_rank b < shape_rank a))) → nat_cmp (shape_rank a) (shape_rank b) ≡ shape_cmp a b
    by_rank e (inl l) = nat_cmp-equal (shape_rank a) (shape_rank b) l ∙ sym (ap (shape_cmp a) (sym (rank_same a b e l)) ∙ tied_itself shape_order a)
    by_rank e (inr (inl l)) = nat_cmp-less (shape_rank a) (shape_rank b) l ∙ sym (rank_less a b e l)
    by_rank e (inr (inr l)) = nat_cmp-greater (shape_rank a) (shape_rank b) l ∙ sym (shape_order.antisymm a b ∙ ap ordering_reverse (rank_less b a (sym e) l))

    by_ops : ((shape_ops a ≡ shape_ops b) ⊎ ((shape_ops a < shape_ops b) ⊎ (shape_ops b < shape_ops a))) → ordering_then (nat_cmp (shape_ops a) (shape_ops b)) (nat_cmp (shape_rank a) (shape_rank b)) ≡ shape_cmp a b
    by_ops (inl e) = ap (λ o. ordering_then o (nat_cmp (shape_rank a) (shape_rank b))) (nat_cmp-equal (shape_ops a) (shape_ops b) e) ∙ by_rank e (cases_order (shape_rank a) (shape_rank b))
    by_ops (inr (inl l)) = ap (λ o. ordering_then o (nat_cmp (shape_rank a) (shape_rank b))) (nat_cmp-less (shape_ops a) (shape_ops b) l) ∙ sym (shape_cmp-ops a b l)
    by_ops (inr (inr l)) = ap (λ o. ordering_then o (nat_cmp (shape_rank a) (shape_rank b))) (nat_cmp-greater (shape_ops a) (shape_ops b) l) ∙ sym (shape_order.antisymm a b ∙ ap ordering_reverse (shape_cmp-ops b a l))
