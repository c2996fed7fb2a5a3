use Rattle.std.proofs.Common.{◌≡◌, ℕ, ◌+◌, ◌-◌, ◌<◌, ◌≤◌, inl, inr, List, map, flat_map, refl, ◌∙◌, ap, suc, zero, arith}
use Rattle.std.proofs.lemmas.Cmp.{tied_itself}
use Rattle.std.specs.List.{range_with_len}
use Rattle.std.specs.List.Sorted.{IsStrictlySortedBy}
use Rattle.std.specs.Ordering.{nat_cmp, ordering_then}
use Rattle.std.specs.declared.cmp.Ordering.{Ordering}
use Rattle.std.specs.declared.cmp.Ordering.TheVariants.{Less}
use Rattle.etp_theory.specs.Orders.{shape_cmp}
use Rattle.etp_theory.specs.Trees.{Shape, leaf, fork, shape_ops}
use Rattle.etp_theory.proofs.Comparing.{nat_cmp-less, nat_cmp-equal, less_below}
use Rattle.etp_laws.specs.Enumeration.{pairs_from, joined, shapes_within, shapes}
use Rattle.etp_theory.proofs.Orders.{shape_order}
use Rattle.etp_laws.proofs.Rising.{In, In-map, In-map_source, In-flat_map, In-flat_map_source, In-range, In-range_bounds, Rising-map, Rising-flat_map, Rising-range}

pub shape_cmp-ops : (s t : Shape) → shape_ops s < shape_ops t → shape_cmp s t ≡ Less
shape_cmp-ops leaf leaf h = absurd (omega arith)
shape_cmp-ops leaf (fork c d) h = refl
shape_cmp-ops (fork a b) leaf h = absurd (omega arith)
shape_cmp-ops (fork a b) (fork c d) h = ap (λ o. ordering_then o (ordering_then (shape_cmp a c) (shape_cmp b d))) (nat_cmp-less _ _ h)

abbrev pub pair_cmp : Shape × Shape → Shape × Shape → Ordering
pair_cmp p q = shape_cmp (joined p) (joined q)

-- pairs of equally many operations are ordered by the left shape, then the right one
pair_cmp-parts : (a b c d : Shape) → shape_ops a + shape_ops b ≡ shape_ops c + shape_ops d → pair_cmp (a, b) (c, d) ≡ ordering_then (shape_cmp a c) (shape_cmp b d)
pair_cmp-parts a b c d e = ap (λ o. ordering_then o (ordering_then (shape_cmp a c) (shape_cmp b d))) (nat_cmp-equal (shape_ops (fork a b)) (shape_ops (fork c d)) (omega arith))

-- up to n operations, the lists are those of the shapes
pub record AreShapes (list : ℕ → List Shape) (n : ℕ) : Type 0 where
  pub sound : (i : ℕ) (s : Shape) → i ≤ n → In s (list i) → shape_ops s ≡ i
  pub complete : (i : ℕ) (s : Shape) → i ≤ n → shape_ops s ≡ i → In s (list i)
  pub rising : (i : ℕ) → i ≤ n → IsStrictlySortedBy shape_cmp (list i)

module _ (list : ℕ → List Shape) (n : ℕ) (are : AreShapes list n) where
  pub pairs_are : (p : Shape × Shape) → In p (pairs_from list n) → shape_ops p.0 + shape_ops p.1 ≡ n
  pairs_are p h =
      let r = In-flat_map_source (λ i. flat_map (λ a. map (λ b. (a, b)) (list (n - i))) (list i)) p (range_with_len 0 (n + 1)) h in
      let s = In-flat_map_source (λ a. map (λ b. (a, b)) (list (n - r.0))) p (list r.0) r.2 in
      let t = In-map_source (λ b. (s.0, b)) p (list (n - r.0)) s.2 in
      let at = In-range_bounds r.0 0 (n + 1) r.1 in
      let small : r.0 ≤ n = omega arith in
      let rest : n - r.0 ≤ n = omega arith in
      let a = are.sound r.0 s.0 small s.1 in
      let b = are.sound (n - r.0) t.0 rest t.1 in
      let x : shape_ops p.0 ≡ shape_ops s.0 = ap (λ (q : Shape × Shape). shape_ops q.0) t.2 in
      let y : shape_ops p.1 ≡ shape_ops t.0 = ap (λ (q : Shape × Shape). shape_ops q.1) t.2 in
      omega arith

  pub In-pairs : (a b : Shape) → shape_ops a + shape_ops b ≡ n → In (a, b) (pairs_from list n)
  In-pairs a b e =
      let small : shape_ops a ≤ n = omega arith in
      let rest : n - shape_ops a ≤ n = omega arith in
      let other : shape_ops b ≡ n - shape_ops a = omega arith in
      In-flat_map {Y = Shape × Shape} (λ i. flat_map (λ a. map (λ b. (a, b)) (list (n - i))) (list i)) (shape_ops a) (a, b) (range_with_len 0 (n + 1))
      (In-range (shape_ops a) 0 (n + 1) (omega arith) (omega arith))
      (In-flat_map {Y = Shape × Shape} (λ c. map (λ d. (c, d)) (list (n - shape_ops a))) a (a, b) (list (shape_ops a))
      (are.complete (shape_ops a) a small refl)
      (In-map {Y = Shape × Shape} (λ c. (a, c)) b (list (n - shape_ops a)) (are.complete (n - shape_ops a) b rest other)))

  pub Rising-pairs : IsStrictlySortedBy pair_cmp (pairs_from list n)
  Rising-pairs =
      Rising-flat_map nat_cmp pair_cmp (λ i. flat_map (λ a. map (λ b. (a, b)) (list (n - i))) (list i)) (range_with_len 0 (n + 1))
      (Rising-range 0 (n + 1))
      (λ i at. let bound = In-range_bounds i 0 (n + 1) at in let small : i ≤ n = omega arith in let rest : n - i ≤ n = omega arith in
      Rising-flat_map shape_cmp pair_cmp (λ a. map (λ b. (a, b)) (list (n - i))) (list i)
      (are.rising i small)
      (λ a k. Rising-map shape_cmp pair_cmp (λ b. (a, b)) (list (n - i)) (are.rising (n - i) rest)
      (λ b d l m e. let x = are.sound (n - i) b rest l in let y = are.sound (n - i) d rest m in
      pair_cmp-parts a b a d (omega arith) ∙ ap (λ o. ordering_then o (shape_cmp b d)) (tied_itself shape_order a) ∙ e))
      (λ a c p q k l e u v.
      let s = In-map_source (λ b. (a, b)) p (list (n - i)) u in
      let t = In-map_source (λ b. (c, b)) q (list (n - i)) v in
      let w = are.sound i a small k in let x = are.sound i c small l in
      let y = are.sound (n - i) s.0 rest s.1 in let z = are.sound (n - i) t.0 rest t.1 in
      (λ d. pair_cmp (s.2 d) (t.2 d)) ∙ pair_cmp-parts a s.0 c t.0 (omega arith) ∙ ap (λ o. ordering_then o (shape_cmp s.0 t.0)) e))
      (λ i j p q k l e u v.
      let lt = less_below i j e in
      let bi = In-range_bounds i 0 (n + 1) k in let bj = In-range_bounds j 0 (n + 1) l in
      let r = In-flat_map_source (λ a. map (λ b. (a, b)) (list (n - i))) p (list i) u in
      let s = In-flat_map_source (λ a. map (λ b. (a, b)) (list (n - j))) q (list j) v in
      let r' = In-map_source (λ b. (r.0, b)) p (list (n - i)) r.2 in
      let s' = In-map_source (λ b. (s.0, b)) q (list (n - j)) s.2 in
      let a = are.sound i r.0 (omega arith) r.1 in let c = are.sound j s.0 (omega arith) s.1 in
      let b = are.sound (n - i) r'.0 (omega arith) r'.1 in let d = are.sound (n - j) s'.0 (omega arith) s'.1 in
      (λ z. pair_cmp (r'.2 z) (s'.2 z)) ∙ pair_cmp-parts r.0 r'.0 s.0 s'.0 (omega arith)
      ∙ ap (λ o. ordering_then o (shape_cmp r'.0 s'.0)) (shape_cmp-ops r.0 s.0 (omega arith)))

-- below its depth, `shapes_within` has the shapes
pub AreShapes-within : (depth n : ℕ) → n < depth → AreShapes (shapes_within depth) n
unfolding IsStrictlySortedBy
AreShapes-within zero n h = absurd (omega arith)
AreShapes-within (suc depth) n h = record {
  sound = λ i s k l. sound i s (omega arith) l (λ m lt. AreShapes-within depth m lt);
  complete = λ i s k e. complete i s (omega arith) e (λ m lt. AreShapes-within depth m lt);
  rising = λ i k. rising i (omega arith) (λ m lt. AreShapes-within depth m lt);
}
  where
    sound : (i : ℕ) (s : Shape) → i < suc depth → In s (shapes_within (suc depth) i) → ((m : ℕ) → m < depth → AreShapes (shapes_within depth) m) → shape_ops s ≡ i
    sound zero s k (inl e) rec = ap shape_ops e
    sound zero s k (inr e) rec = absurd e
    sound (suc i) s k l rec =
        let r = In-map_source joined s (pairs_from (shapes_within depth) i) l in
        let a = pairs_are (shapes_within depth) i (rec i (omega arith)) r.0 r.1 in
        ap shape_ops r.2 ∙ omega arith

    complete : (i : ℕ) (s : Shape) → i < suc depth → shape_ops s ≡ i → ((m : ℕ) → m < depth → AreShapes (shapes_within depth) m) → In s (shapes_within (suc depth) i)
    complete zero leaf k e rec = inl refl
    complete zero (fork a b) k e rec = absurd (omega arith)
    complete (suc i) leaf k e rec = absurd (omega arith)
    complete (suc i) (fork a b) k e rec =
        In-map joined (a, b) (pairs_from (shapes_within depth) i) (In-pairs (shapes_within depth) i (rec i (omega arith)) a b (omega arith))

    rising : (i : ℕ) → i < suc depth → ((m : ℕ) → m < depth → AreShapes (shapes_within depth) m) → IsStrictlySortedBy shape_cmp (shapes_within (suc depth) i)
    rising zero k rec = (tt, tt)
    rising (suc i) k rec =
        Rising-map pair_cmp shape_cmp joined (pairs_from (shapes_within depth) i) (Rising-pairs (shapes_within depth) i (rec i (omega arith))) (λ x y a b e. e)

pub AreShapes-shapes : (n : ℕ) → AreShapes shapes n
AreShapes-shapes n = record {
  sound = λ i s k l. (AreShapes-within (i + 1) i (omega arith)).sound i s (omega arith) l;
  complete = λ i s k e. (AreShapes-within (i + 1) i (omega arith)).complete i s (omega arith) e;
  rising = λ i k. (AreShapes-within (i + 1) i (omega arith)).rising i (omega arith);
}
