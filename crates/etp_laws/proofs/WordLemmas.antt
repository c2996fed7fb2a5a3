use Rattle.std.proofs.Common.{◌≡◌, ℕ, ◌+◌, ◌<◌, inl, inr, ◌++◌, List, [], ◌∷◌, map, length, take, drop, refl, sym, ◌∙◌, ap, subst, suc, zero, arith, ◌==◌}
use Rattle.std.proofs.lemmas.Bool.{cases_lt, cond-true, cond-false, eq-eqb, ne_eqb}
use Rattle.std.proofs.lemmas.Bool.Decides.{nat_tests}
use Rattle.std.proofs.lemmas.List.{take-append-drop, length-take, length-drop}
use Rattle.std.proofs.Math.Seq.{take-append_seam, drop-append_seam}
use Rattle.std.specs.List.{range_with_len}
use Rattle.std.specs.List.Sorted.{IsStrictlySortedBy}
use Rattle.std.specs.Cmp.Lexicographic.{slice_cmp}
use Rattle.std.specs.Ordering.{nat_cmp, ordering_then}
use Rattle.std.specs.declared.cmp.Ordering.TheVariants.{Equal}
use Rattle.etp_term.proofs.WordOrder.{length-word_of}
use Rattle.etp_theory.specs.Trees.{Tree, var, op, Shape, leaf, fork, shape_of, word_of, shape_leaves}
use Rattle.etp_laws.specs.Occurrences.{Grows}
use Rattle.etp_laws.specs.Enumeration.{filled, used_after, words}
use Rattle.etp_laws.proofs.Rising.{In, In-map, In-map_source, In-flat_map, In-flat_map_source, In-range, In-range_bounds, Rising-map, Rising-flat_map, Rising-range}

pub used_after-old : (used v : ℕ) → v < used → used_after used v ≡ used
used_after-old used v h = cond-false (v == used) _ _ (ne_eqb v used (λ e. omega arith))

pub used_after-new : (used v : ℕ) → v ≡ used → used_after used v ≡ used + 1
used_after-new used v h = cond-true (v == used) _ _ (eq-eqb v used h)

pub In-words : (n used : ℕ) (w : List ℕ) → Grows used w → length w ≡ n → In w (words n used)
In-words zero used [] g e = inl refl
In-words zero used (v ∷ w) g e = absurd (omega arith)
In-words (suc n) used [] g e = absurd (omega arith)
In-words (suc n) used (v ∷ w) (inl g) e =
    In-flat_map (λ x. map (λ u. x ∷ u) (words n (used_after used x))) v (v ∷ w) (range_with_len 0 (used + 1))
    (let lt = g.0 in In-range v 0 (used + 1) (omega arith) (omega arith))
    (In-map (λ u. v ∷ u) w (words n (used_after used v)) (subst (λ k. In w (words n k)) (sym (used_after-old used v g.0)) (In-words n used w g.1 (omega arith))))
In-words (suc n) used (v ∷ w) (inr g) e =
    In-flat_map (λ x. map (λ u. x ∷ u) (words n (used_after used x))) v (v ∷ w) (range_with_len 0 (used + 1))
    (let eq = g.0 in In-range v 0 (used + 1) (omega arith) (omega arith))
    (In-map (λ u. v ∷ u) w (words n (used_after used v)) (subst (λ k. In w (words n k)) (sym (used_after-new used v g.0)) (In-words n (used + 1) w g.1 (omega arith))))

pub words_are : (n used : ℕ) (w : List ℕ) → In w (words n used) → Grows used w × (length w ≡ n)
words_are zero used w (inl e) = (subst (Grows used) (sym e) tt, ap length e)
words_are zero used w (inr h) = absurd h
words_are (suc n) used w h =
    let r = In-flat_map_source (λ x. map (λ u. x ∷ u) (words n (used_after used x))) w (range_with_len 0 (used + 1)) h in
    let s = In-map_source (λ u. r.0 ∷ u) w (words n (used_after used r.0)) r.2 in
    let b = In-range_bounds r.0 0 (used + 1) r.1 in
    let i = words_are n (used_after used r.0) s.0 s.1 in
    (subst (Grows used) (sym s.2) (one r.0 s.0 b.1 i.0), ap length s.2 ∙ ap suc i.1)
  where
    one : (v : ℕ) (u : List ℕ) → v < 0 + (used + 1) → Grows (used_after used v) u → Grows used (v ∷ u)
    one v u b g = elim (cases_lt v used) [
      | inl l ↦ inl (l, subst (λ k. Grows k u) (used_after-old used v l) g)
      | inr l ↦ (let e : v ≡ used = omega arith in inr (e, subst (λ k. Grows k u) (used_after-new used v e) g))
    ]

pub Rising-words : (n used : ℕ) → IsStrictlySortedBy (slice_cmp nat_cmp) (words n used)
unfolding IsStrictlySortedBy
Rising-words zero used = (tt, tt)
Rising-words (suc n) used =
    Rising-flat_map nat_cmp (slice_cmp nat_cmp) (λ x. map (λ u. x ∷ u) (words n (used_after used x))) (range_with_len 0 (used + 1))
    (Rising-range 0 (used + 1))
    (λ v i. Rising-map (slice_cmp nat_cmp) (slice_cmp nat_cmp) (λ u. v ∷ u) (words n (used_after used v)) (Rising-words n (used_after used v)) (λ x y j k e. ap (λ o. ordering_then o (slice_cmp nat_cmp x y)) (same v) ∙ e))
    (λ x y a b i j e k l.
    let r = In-map_source (λ u. x ∷ u) a (words n (used_after used x)) k in
    let s = In-map_source (λ u. y ∷ u) b (words n (used_after used y)) l in
    (λ d. slice_cmp nat_cmp (r.2 d) (s.2 d)) ∙ ap (λ o. ordering_then o (slice_cmp nat_cmp r.0 s.0)) e)
  where
    same : (v : ℕ) → nat_cmp v v ≡ Equal
    same v = grind (arith, nat_tests)

pub shape_of-filled : (s : Shape) (w : List ℕ) → shape_of (filled s w) ≡ s
shape_of-filled leaf w = refl
shape_of-filled (fork a b) w = λ i. fork (shape_of-filled a (take (shape_leaves a) w) i) (shape_of-filled b (drop (shape_leaves a) w) i)

pub word_of-filled : (s : Shape) (w : List ℕ) → length w ≡ shape_leaves s → word_of (filled s w) ≡ w
word_of-filled leaf [] e = absurd (omega arith)
word_of-filled leaf (x ∷ []) e = refl
word_of-filled leaf (x ∷ (y ∷ w)) e = absurd (omega arith)
word_of-filled (fork a b) w e =
    (λ i. word_of-filled a (take (shape_leaves a) w) (omega (arith, length-take (shape_leaves a) w)) i ++ word_of-filled b (drop (shape_leaves a) w) (omega (arith, length-drop (shape_leaves a) w)) i)
    ∙ take-append-drop (shape_leaves a) w

pub filled-word_of : (t : Tree) → filled (shape_of t) (word_of t) ≡ t
filled-word_of (var v) = refl
filled-word_of (op l r) =
    (λ i. op (filled (shape_of l) (front i)) (filled (shape_of r) (back i))) ∙ (λ i. op (filled-word_of l i) (filled-word_of r i))
  where
    front : take (shape_leaves (shape_of l)) (word_of l ++ word_of r) ≡ word_of l
    front = ap (λ n. take n (word_of l ++ word_of r)) (sym (length-word_of l)) ∙ take-append_seam (word_of l) (word_of r)

    back : drop (shape_leaves (shape_of l)) (word_of l ++ word_of r) ≡ word_of r
    back = ap (λ n. drop n (word_of l ++ word_of r)) (sym (length-word_of l)) ∙ drop-append_seam (word_of l) (word_of r)
