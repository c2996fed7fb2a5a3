-- The place of a word among those of its length, and of a law among the listed ones of its shapes.
use Rattle.std.proofs.Common.{◌≡◌, ℕ, ◌+◌, ◌<◌, ◌≤◌, ◌⊎◌, inl, inr, ◌++◌, List, [], ◌∷◌, length, length-append, map, filter, flat_map, take, refl, sym, ◌∙◌, ap, subst, arith, true}
use Rattle.std.proofs.lemmas.Bool.{true≢false}
use Rattle.std.proofs.lemmas.List.{length-map}
use Rattle.std.specs.List.{range_with_len}
use Rattle.std.specs.declared.cmp.Ordering.{Ordering}
use Rattle.std.specs.declared.cmp.Ordering.TheVariants.{Less, Equal, Greater}
use Rattle.etp_theory.specs.Trees.{Shape, Equation, shape_leaves}
use Rattle.etp_theory.specs.Orders.{shape_cmp}
use Rattle.etp_laws.specs.Occurrences.{Grows}
use Rattle.etp_laws.specs.Enumeration.{used_after, words, is_first_reading, is_listed, is_kept, law_at, laws_at}
use Rattle.etp_laws.specs.Places.{rank, place_in_block}
use Rattle.etp_theory.proofs.Orders.{shape_equal}
use Rattle.etp_laws.proofs.Canonical.{cases_Ordering}
use Rattle.etp_laws.proofs.WordLemmas.{used_after-old, used_after-new}
use Rattle.etp_laws.proofs.Counting.{length-words, length-words_below}
use Rattle.etp_laws.proofs.Blocks.{order_at, kept_at, laws_at-less, laws_at-equal}
use Rattle.etp_laws.proofs.Splits.{Split, Split-map, Split-flat_map, Split-filter, Split-range, Split-take}

-- what stands before a word
pub record WordBefore (used : ℕ) (w : List ℕ) : Type 0 where
  pub before : List (List ℕ)
  pub split : Split (words (length w) used) before w
  pub long : length before ≡ rank used w

after_first : (used v : ℕ) (w : List ℕ) → Grows used (v ∷ w) → (v ≤ used) × Grows (used_after used v) w
after_first used v w (inl g) = let lt : v < used = g.0 in (omega arith, subst (λ k. Grows k w) (sym (used_after-old used v g.0)) g.1)
after_first used v w (inr g) = let e : v ≡ used = g.0 in (omega arith, subst (λ k. Grows k w) (sym (used_after-new used v g.0)) g.1)

pub word_before : (w : List ℕ) (used : ℕ) → Grows used w → WordBefore used w
word_before [] used g = record { before = []; split = record { after = []; is = refl }; long = refl }
word_before (v ∷ w) used g = one (after_first used v w g) (word_before w (used_after used v) (after_first used v w g).1)
  where
    F : ℕ → List (List ℕ)
    F x = map (λ u. x ∷ u) (words (length w) (used_after used x))

    one : (v ≤ used) × Grows (used_after used v) w → WordBefore (used_after used v) w → WordBefore used (v ∷ w)
    one h r =
        let at : v ≤ used = h.0 in
        let below = length-words_below (length w) used v (λ k. length-words (length w) k) at in
        let here : length (map (λ u. v ∷ u) r.before) ≡ rank (used_after used v) w = length-map r.before (λ u. v ∷ u) ∙ r.long in
        record {
          before = flat_map F (range_with_len 0 v) ++ map (λ u. v ∷ u) r.before;
          split = Split-flat_map F (range_with_len 0 (used + 1)) (range_with_len 0 v) v (map (λ u. v ∷ u) r.before) (v ∷ w)
              (Split-range 0 v (used + 1) v (omega arith) (omega arith))
              (Split-map (λ u. v ∷ u) (words (length w) (used_after used v)) r.before w r.split);
          long = length-append (flat_map F (range_with_len 0 v)) (map (λ u. v ∷ u) r.before) ∙ (λ i. below i + here i);
        }

-- what stands before a law among the listed ones of its shapes
pub record LawBefore (s : Shape × Shape) (w : List ℕ) : Type 0 where
  pub before : List Equation
  pub split : Split (laws_at s) before (law_at s w)
  pub long : length before ≡ place_in_block (shape_cmp s.0 s.1) (shape_leaves s.0) w

pub law_before : (s : Shape × Shape) (w : List ℕ) → Grows 0 w → length w ≡ shape_leaves s.0 + shape_leaves s.1 → is_listed (law_at s w) ≡ true → LawBefore s w
law_before s w g e h = by_cases (cases_Ordering (shape_cmp s.0 s.1)) (word_before w 0 g)
  where
    n : ℕ
    n = shape_leaves s.0 + shape_leaves s.1

    at : (b : WordBefore 0 w) → Split (words n 0) b.before w
    at b = subst (λ m. Split (words m 0) b.before w) e b.split

    passes : (o : Ordering) → shape_cmp s.0 s.1 ≡ o → is_first_reading o (law_at s w) ≡ true
    passes o k = ap (λ x. is_first_reading x (law_at s w)) (sym (order_at s w ∙ k)) ∙ h

    by_cases : ((shape_cmp s.0 s.1 ≡ Less) ⊎ ((shape_cmp s.0 s.1 ≡ Equal) ⊎ (shape_cmp s.0 s.1 ≡ Greater))) → WordBefore 0 w → LawBefore s w
    by_cases (inl k) b = record {
      before = map (law_at s) b.before;
      split = subst (λ ls. Split ls (map (law_at s) b.before) (law_at s w)) (sym (laws_at-less s k)) (Split-map (law_at s) (words n 0) b.before w (at b));
      long = length-map b.before (law_at s) ∙ b.long ∙ ap (λ o. place_in_block o (shape_leaves s.0) w) (sym k);
    }
    by_cases (inr (inl k)) b =
        let same = shape_equal s.0 s.1 k in
        let kept : is_kept (shape_leaves s.0) w ≡ true = sym (kept_at s w same e) ∙ passes Equal k in
        let twice : n ≡ shape_leaves s.0 + shape_leaves s.0 = ap (λ t. shape_leaves s.0 + shape_leaves t) (sym same) in
        let front : b.before ≡ take (rank 0 w) (words (shape_leaves s.0 + shape_leaves s.0) 0) = Split-take (words n 0) b.before w (at b) ∙ (λ i. take (b.long i) (words (twice i) 0)) in
        record {
          before = map (law_at s) (filter (is_kept (shape_leaves s.0)) b.before);
          split = subst (λ ls. Split ls (map (law_at s) (filter (is_kept (shape_leaves s.0)) b.before)) (law_at s w)) (sym (laws_at-equal s k))
              (Split-map (law_at s) (filter (is_kept (shape_leaves s.0)) (words n 0)) (filter (is_kept (shape_leaves s.0)) b.before) w (Split-filter (is_kept (shape_leaves s.0)) (words n 0) b.before w (at b) kept));
          long = length-map (filter (is_kept (shape_leaves s.0)) b.before) (law_at s) ∙ ap (λ ws. length (filter (is_kept (shape_leaves s.0)) ws)) front ∙ ap (λ o. place_in_block o (shape_leaves s.0) w) (sym k);
        }
    by_cases (inr (inr k)) b = absurd (true≢false (sym (passes Greater k)))
