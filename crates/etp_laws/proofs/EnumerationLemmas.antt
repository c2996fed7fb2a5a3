use Rattle.std.proofs.Common.{◌≡◌, ℕ, ◌+◌, ◌-◌, inl, inr, ◌++◌, List, [], ◌∷◌, map, flat_map, refl, sym, ◌∙◌, ap, subst, zero, suc, arith, add-one}
use Rattle.std.proofs.lemmas.List.{append-nil}
use Rattle.std.proofs.lemmas.Grind.{flat_map-append}
use Rattle.std.specs.Cmp.{IsTotalOrder}
use Rattle.std.specs.List.{range_with_len}
use Rattle.std.specs.List.Sorted.{IsStrictlySortedBy}
use Rattle.std.specs.Ordering.{ordering_reverse}
use Rattle.std.specs.declared.cmp.Ordering.{Ordering}
use Rattle.std.specs.declared.cmp.Ordering.TheVariants.{Less, Greater}
use Rattle.etp_theory.specs.Orders.{shape_cmp}
use Rattle.etp_theory.specs.Trees.{Shape, leaf, fork, shape_ops}
use Rattle.etp_laws.specs.Enumeration.{pairs_from, joined, shapes}
use Rattle.etp_theory.proofs.Orders.{shape_order}
use Rattle.etp_laws.proofs.Rising.{In, In-map, In-map_source, Rising-map, each}
use Rattle.etp_laws.proofs.Pairs.{pair_cmp, pairs_are, In-pairs, Rising-pairs, AreShapes-shapes}

range_push : (a n : ℕ) → range_with_len a (n + 1) ≡ range_with_len a n ++ (a + n) ∷ []
range_push a zero = let e : a ≡ a + 0 = omega arith in ap (λ x. x ∷ []) e
range_push a (suc n) =
    let e : suc n ≡ n + 1 = omega arith in
    let f : (a + 1) + n ≡ a + suc n = omega arith in
    rw add-one (ap (λ xs. a ∷ xs) (ap (range_with_len (a + 1)) e ∙ range_push (a + 1) n ∙ ap (λ x. range_with_len (a + 1) n ++ x ∷ []) f))

-- one more number of a range
pub flat_map_range_more : {Y : Type 0} (f : ℕ → List Y) (n : ℕ) → flat_map f (range_with_len 0 (n + 1)) ≡ flat_map f (range_with_len 0 n) ++ f n
flat_map_range_more f n =
    ap (flat_map f) (range_push 0 n ∙ ap (λ x. range_with_len 0 n ++ x ∷ []) zero_plus)
    ∙ flat_map-append f (range_with_len 0 n) (n ∷ [])
    ∙ ap (λ xs. flat_map f (range_with_len 0 n) ++ xs) (append-nil (f n))
  where
    zero_plus : 0 + n ≡ n
    zero_plus = omega arith

never_both : {X : Type 0} (R : X → X → Ordering) → IsTotalOrder R → (x y : X) → R x y ≡ Less → R y x ≡ Less → ⊥
never_both R o x y a b = let h : Less ≡ Greater = sym a ∙ o.antisymm x y ∙ ap ordering_reverse b in cc

-- a strictly rising list is determined by its elements
pub rising_unique : {X : Type 0} (R : X → X → Ordering) → IsTotalOrder R → (xs ys : List X) → IsStrictlySortedBy R xs → IsStrictlySortedBy R ys → ((x : X) → In x xs → In x ys) → ((x : X) → In x ys → In x xs) → xs ≡ ys
unfolding IsStrictlySortedBy
rising_unique R o [] [] a b to from = refl
rising_unique R o [] (y ∷ ys) a b to from = absurd (from y (inl refl))
rising_unique R o (x ∷ xs) [] a b to from = absurd (to x (inl refl))
rising_unique R o (x ∷ xs) (y ∷ ys) a b to from =
    (λ i. heads (to x (inl refl)) (from y (inl refl)) i ∷ rising_unique R o xs ys a.1 b.1
    (λ z h. later z (to z (inr h)) (λ e. never_both R o x z (each (λ u. R x u ≡ Less) xs a.0 z h) (subst (λ u. R u x ≡ Less) (sym (e ∙ sym (heads (to x (inl refl)) (from y (inl refl))))) (subst (λ u. R x u ≡ Less) (e ∙ sym (heads (to x (inl refl)) (from y (inl refl)))) (each (λ u. R x u ≡ Less) xs a.0 z h)))))
    (λ z h. earlier z (from z (inr h)) (λ e. never_both R o y z (each (λ u. R y u ≡ Less) ys b.0 z h) (subst (λ u. R u y ≡ Less) (sym (e ∙ heads (to x (inl refl)) (from y (inl refl)))) (subst (λ u. R y u ≡ Less) (e ∙ heads (to x (inl refl)) (from y (inl refl))) (each (λ u. R y u ≡ Less) ys b.0 z h))))) i)
  where
    heads : In x (y ∷ ys) → In y (x ∷ xs) → x ≡ y
    heads (inl e) k = e
    heads (inr h) (inl e) = sym e
    heads (inr h) (inr k) = absurd (never_both R o x y (each (λ u. R x u ≡ Less) xs a.0 y k) (each (λ u. R y u ≡ Less) ys b.0 x h))

    later : (z : _) → In z (y ∷ ys) → (z ≡ y → ⊥) → In z ys
    later z (inl e) n = absurd (n e)
    later z (inr h) n = h

    earlier : (z : _) → In z (x ∷ xs) → (z ≡ x → ⊥) → In z xs
    earlier z (inl e) n = absurd (n e)
    earlier z (inr h) n = h

-- the shapes of one operation more, from the pairs
pub joined_pairs : (n : ℕ) → map joined (pairs_from shapes n) ≡ shapes (n + 1)
joined_pairs n =
    rising_unique shape_cmp shape_order (map joined (pairs_from shapes n)) (shapes (n + 1))
    (Rising-map pair_cmp shape_cmp joined (pairs_from shapes n) (Rising-pairs shapes n (AreShapes-shapes n)) (λ x y a b e. e))
    ((AreShapes-shapes (n + 1)).rising (n + 1) (omega arith))
    (λ s h. let r = In-map_source joined s (pairs_from shapes n) h in
    let e = pairs_are shapes n (AreShapes-shapes n) r.0 r.1 in
    (AreShapes-shapes (n + 1)).complete (n + 1) s (omega arith) (ap shape_ops r.2 ∙ omega arith))
    (λ s h. from s ((AreShapes-shapes (n + 1)).sound (n + 1) s (omega arith) h))
  where
    from : (s : Shape) → shape_ops s ≡ n + 1 → In s (map joined (pairs_from shapes n))
    from leaf e = absurd (omega arith)
    from (fork a b) e = In-map joined (a, b) (pairs_from shapes n) (In-pairs shapes n (AreShapes-shapes n) a b (omega arith))

pub joined_pairs_before : (n : ℕ) → (n ≡ 0 → ⊥) → map joined (pairs_from shapes (n - 1)) ≡ shapes n
joined_pairs_before n h = let e : n - 1 + 1 ≡ n = omega arith in joined_pairs (n - 1) ∙ ap shapes e
