-- The number of a law by counting.
use Rattle.std.proofs.Common.{◌≡◌, ◌≢◌, ℕ, ◌+◌, ◌-◌, ◌<◌, ◌≤◌, ◌⊎◌, inl, inr, ◌++◌, [], ◌∷◌, length, length-append, flat_map, Some, sym, ◌∙◌, ap, subst, arith, false, cond}
use Rattle.std.proofs.lemmas.Cmp.{tied_itself, nat_list_cmp_total}
use Rattle.std.proofs.lemmas.Bool.Decides.{nat_tests}
use Rattle.std.specs.List.{range_with_len, slice_get}
use Rattle.std.specs.Cmp.Lexicographic.{slice_cmp}
use Rattle.std.specs.Ordering.{nat_cmp, ordering_then, is_gt, ordering_reverse}
use Rattle.std.specs.declared.cmp.Ordering.{Ordering}
use Rattle.std.specs.declared.cmp.Ordering.TheVariants.{Less, Equal, Greater}
use Rattle.etp_theory.specs.Trees.{var, op, Shape, leaf, Equation, shape_of, shape_ops, shape_leaves, law_word, law_ops, exchanged}
use Rattle.etp_theory.specs.Orders.{shape_cmp}
use Rattle.etp_theory.specs.Sameness.{Same}
use Rattle.etp_theory.proofs.Comparing.{less_not_equal}
use Rattle.etp_term.proofs.WordOrder.{length-word_of}
use Rattle.etp_laws.specs.Listing.{Listed, reflexive_law}
use Rattle.etp_laws.specs.LawLists.{IsNumberOf, HasNumber}
use Rattle.etp_laws.specs.Occurrences.{by_occurrence}
use Rattle.etp_laws.specs.Enumeration.{pairs_from, shapes, is_listed, law_at, laws_at, laws_of, laws_upto}
use Rattle.etp_laws.specs.Places.{shape_rank, place_in_block, place_at, lesser, place_by, number_of}
use Rattle.etp_theory.proofs.Orders.{shape_order, shape_equal, shape_counts}
use Rattle.etp_laws.proofs.Occurrences.{moved, moved-injective, by_occurrence-map}
use Rattle.etp_laws.proofs.Canonical.{cases_Ordering, canonical_from_listed, listed_from_canonical}
use Rattle.etp_laws.proofs.TheList.{law_at-shapes_of, test_from_canonical}
use Rattle.etp_laws.proofs.Readings.{reading_of, left_shape, right_shape, canonical_reading, law_ops-reading}
use Rattle.etp_laws.proofs.ReflexiveLaw.{Listed-reflexive_law, lone_same}
use Rattle.etp_laws.proofs.Variables.{growing}
use Rattle.etp_laws.proofs.Entries.{entry_after}
use Rattle.etp_laws.proofs.Blocks.{shape_leaves-ops}
use Rattle.etp_laws.proofs.Splits.{Split, Split-flat_map, Split-range, Split-get}
use Rattle.etp_laws.proofs.ShapePlaces.{shape_cmp-ranks}
use Rattle.etp_laws.proofs.BlockPlaces.{BlockBefore, block_before, laws_below_are}
use Rattle.etp_laws.proofs.WordPlaces.{LawBefore, law_before}

-- a listed law stands at the place that is counted
pub law_place : (k : ℕ) (e : Equation) → Listed e → law_ops e ≤ k → k ≤ 5 → slice_get (laws_upto k) (place_at (shape_of e.left) (shape_of e.right) (law_word e)) ≡ Some e
unfolding laws_upto
law_place k e listed h small = subst (λ i. slice_get (laws_upto k) i ≡ Some e) long (Split-get (laws_upto k) (flat_map laws_of (range_with_len 0 n) ++ (flat_map laws_at block.before ++ place.before)) e whole)
  where
    s : Shape × Shape
    s = (shape_of e.left, shape_of e.right)

    n : ℕ
    n = shape_ops (shape_of e.left) + shape_ops (shape_of e.right)

    count : n ≡ law_ops e
    count = λ i. shape_counts e.left i + shape_counts e.right i

    block : BlockBefore (shape_of e.left) (shape_of e.right)
    block = block_before (shape_of e.left) (shape_of e.right) (let c = count in omega arith) (canonical_from_listed e listed).shapes

    itself : law_at s (law_word e) ≡ e
    itself = law_at-shapes_of e

    place : LawBefore s (law_word e)
    place = law_before s (law_word e) (growing e listed) (length-word_of (op e.left e.right)) (ap is_listed itself ∙ test_from_canonical e (canonical_from_listed e listed))

    whole : Split (laws_upto k) (flat_map laws_of (range_with_len 0 n) ++ (flat_map laws_at block.before ++ place.before)) e
    whole =
        let c = count in
        Split-flat_map laws_of (range_with_len 0 (k + 1)) (range_with_len 0 n) n (flat_map laws_at block.before ++ place.before) e
        (Split-range 0 n (k + 1) n (omega arith) (omega arith))
        (Split-flat_map laws_at (pairs_from shapes n) block.before s place.before e block.split (subst (λ q. Split (laws_at s) place.before q) itself place.split))

    inside : place_in_block (shape_cmp (shape_of e.left) (shape_of e.right)) (shape_leaves (shape_of e.left)) (law_word e) ≡ place_in_block (ordering_then (nat_cmp (shape_ops (shape_of e.left)) (shape_ops (shape_of e.right))) (nat_cmp (shape_rank (shape_of e.left)) (shape_rank (shape_of e.right)))) (shape_ops (shape_of e.left) + 1) (law_word e)
    inside = λ i. place_in_block (sym (shape_cmp-ranks (shape_of e.left) (shape_of e.right)) i) (shape_leaves-ops (shape_of e.left) i) (law_word e)

    long : length (flat_map laws_of (range_with_len 0 n) ++ (flat_map laws_at block.before ++ place.before)) ≡ place_at (shape_of e.left) (shape_of e.right) (law_word e)
    long =
        length-append (flat_map laws_of (range_with_len 0 n)) (flat_map laws_at block.before ++ place.before)
        ∙ (λ i. laws_below_are n (let c = count in omega arith) i + (length-append (flat_map laws_at block.before) place.before ∙ (λ j. block.long j + (place.long ∙ inside) j)) i)

-- the entry that is the same as a law, and where it stands
record Found (p : Equation) : Type 0 where
  entry : Equation
  listed : Listed entry
  same : Same p entry
  ops : law_ops entry ≡ law_ops p
  place : place_at (shape_of entry.left) (shape_of entry.right) (law_word entry) ≡ place_by (shape_cmp (shape_of p.left) (shape_of p.right)) p

greater_not_equal : Greater ≡ Equal → ⊥
greater_not_equal e = cc

module _ (p : Equation) (n : p.left ≢ p.right) where
  plain : is_gt (shape_cmp (shape_of p.left) (shape_of p.right)) ≡ false → (shape_of p.left ≡ shape_of p.right → is_gt (slice_cmp nat_cmp (by_occurrence (law_word p)) (by_occurrence (law_word (exchanged p)))) ≡ false) → place_at (shape_of p.left) (shape_of p.right) (by_occurrence (law_word p)) ≡ place_by (shape_cmp (shape_of p.left) (shape_of p.right)) p → Found p
  plain s w e =
      let r = reading_of p in
      record {
        entry = r.0;
        listed = listed_from_canonical r.0 (canonical_reading p r.0 r.1 s w n);
        same = (r.1.by, r.1.injective, inl r.1.is);
        ops = law_ops-reading p r.0 r.1;
        place = (λ i. place_at (left_shape p r.0 r.1 i) (right_shape p r.0 r.1 i) (r.1.word i)) ∙ e;
      }

  turned : is_gt (shape_cmp (shape_of p.right) (shape_of p.left)) ≡ false → (shape_of p.right ≡ shape_of p.left → is_gt (slice_cmp nat_cmp (by_occurrence (law_word (exchanged p))) (by_occurrence (law_word p))) ≡ false) → place_at (shape_of p.right) (shape_of p.left) (by_occurrence (law_word (exchanged p))) ≡ place_by (shape_cmp (shape_of p.left) (shape_of p.right)) p → Found p
  turned s w e =
      let r = reading_of (exchanged p) in
      let l = law_ops-reading (exchanged p) r.0 r.1 in
      record {
        entry = r.0;
        listed = listed_from_canonical r.0 (canonical_reading (exchanged p) r.0 r.1 s w (λ h. n (sym h)));
        same = (r.1.by, r.1.injective, inr (ap exchanged r.1.is));
        ops = omega arith;
        place = (λ i. place_at (left_shape (exchanged p) r.0 r.1 i) (right_shape (exchanged p) r.0 r.1 i) (r.1.word i)) ∙ e;
      }

  back : (s t : Shape) (o : Ordering) → shape_cmp s t ≡ o → shape_cmp t s ≡ ordering_reverse o
  back s t o e = shape_order.antisymm t s ∙ ap ordering_reverse e

  first : shape_cmp (shape_of p.left) (shape_of p.right) ≡ Equal → is_gt (slice_cmp nat_cmp (by_occurrence (law_word p)) (by_occurrence (law_word (exchanged p)))) ≡ false → Found p
  first e g =
      plain (ap is_gt e) (λ _. g)
      (ap (λ b. place_at (shape_of p.left) (shape_of p.right) (cond b (by_occurrence (law_word (exchanged p))) (by_occurrence (law_word p)))) (sym g) ∙ ap (λ o. place_by o p) (sym e))

  by_words : shape_cmp (shape_of p.left) (shape_of p.right) ≡ Equal → ((slice_cmp nat_cmp (by_occurrence (law_word p)) (by_occurrence (law_word (exchanged p))) ≡ Less) ⊎ ((slice_cmp nat_cmp (by_occurrence (law_word p)) (by_occurrence (law_word (exchanged p))) ≡ Equal) ⊎ (slice_cmp nat_cmp (by_occurrence (law_word p)) (by_occurrence (law_word (exchanged p))) ≡ Greater))) → Found p
  by_words e (inl w) = first e (ap is_gt w)
  by_words e (inr (inl w)) = first e (ap is_gt w)
  by_words e (inr (inr w)) =
      let s = shape_equal (shape_of p.left) (shape_of p.right) e in
      turned (ap is_gt (back (shape_of p.left) (shape_of p.right) Equal e)) (λ _. ap is_gt (nat_list_cmp_total.antisymm (by_occurrence (law_word (exchanged p))) (by_occurrence (law_word p)) ∙ ap ordering_reverse w))
      ((λ i. place_at (sym s i) (s i) (by_occurrence (law_word (exchanged p))))
      ∙ ap (λ o. place_at (shape_of p.left) (shape_of p.right) (cond (is_gt o) (by_occurrence (law_word (exchanged p))) (by_occurrence (law_word p)))) (sym w) ∙ ap (λ o. place_by o p) (sym e))

  by_shapes : ((shape_cmp (shape_of p.left) (shape_of p.right) ≡ Less) ⊎ ((shape_cmp (shape_of p.left) (shape_of p.right) ≡ Equal) ⊎ (shape_cmp (shape_of p.left) (shape_of p.right) ≡ Greater))) → Found p
  by_shapes (inl e) = plain (ap is_gt e) (λ h. absurd (less_not_equal (sym e ∙ (λ i. shape_cmp (h i) (shape_of p.right)) ∙ tied_itself shape_order (shape_of p.right)))) (ap (λ o. place_by o p) (sym e))
  by_shapes (inr (inl e)) = by_words e (cases_Ordering (slice_cmp nat_cmp (by_occurrence (law_word p)) (by_occurrence (law_word (exchanged p)))))
  by_shapes (inr (inr e)) = turned (ap is_gt (back (shape_of p.left) (shape_of p.right) Greater e)) (λ h. absurd (greater_not_equal (sym e ∙ (λ i. shape_cmp (sym h i) (shape_of p.right)) ∙ tied_itself shape_order (shape_of p.right)))) (ap (λ o. place_by o p) (sym e))

  differing : Found p
  differing = by_shapes (cases_Ordering (shape_cmp (shape_of p.left) (shape_of p.right)))

-- the law of one variable on both sides
lone : (p : Equation) (x : ℕ) → p.left ≡ var x → p.right ≡ var x → Found p
lone p x l r = record {
  entry = reflexive_law;
  listed = Listed-reflexive_law;
  same = lone_same x p l r;
  ops = sym ((λ i. law_ops (is i)));
  place = sym (ap (λ w. place_at leaf leaf (lesser w w)) two) ∙ sym (ap (λ (q : Equation). place_by (shape_cmp (shape_of q.left) (shape_of q.right)) q) is);
}
  where
    is : p ≡ (let q : Equation = record { left = var x; right = var x } in q)
    is = λ i. record { left = l i; right = r i }

    here : moved x 0 x ≡ 0
    here = grind (arith, nat_tests)

    two : by_occurrence (x ∷ x ∷ []) ≡ 0 ∷ 0 ∷ []
    two = sym (by_occurrence-map (moved x 0) (moved-injective x 0) (x ∷ x ∷ [])) ∙ ap (λ y. by_occurrence (y ∷ y ∷ [])) here

found : (p : Equation) → HasNumber p → Found p
found p (inl n) = differing p n
found p (inr h) = lone p h.0 h.1 h.2

-- the number that is counted is the law's
pub number_is : (k : ℕ) (p : Equation) → HasNumber p → law_ops p ≤ k → k ≤ 5 → IsNumberOf (laws_upto k) p (number_of p)
number_is k p has h small =
    let f = found p has in
    let o = f.ops in
    let at = law_place k f.entry f.listed (omega arith) small in
    let less : number_of p - 1 ≡ place_at (shape_of f.entry.left) (shape_of f.entry.right) (law_word f.entry) = sub_one (place_by (shape_cmp (shape_of p.left) (shape_of p.right)) p) ∙ sym f.place in
    record {
      entry = f.entry;
      stands = entry_after (laws_upto k) (number_of p) (positive (place_by (shape_cmp (shape_of p.left) (shape_of p.right)) p)) ∙ ap (slice_get (laws_upto k)) less ∙ at;
      same = f.same;
    }
  where
    sub_one : (n : ℕ) → n + 1 - 1 ≡ n
    sub_one n = omega arith

    positive : (n : ℕ) → 0 < n + 1
    positive n = omega arith
