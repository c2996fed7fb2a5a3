use Rattle.std.proofs.Common.{◌≡◌, ℕ, ◌⊎◌, inl, inr, ◌++◌, List, map, refl, sym, ◌∙◌, ap, subst, arith, false}
use Rattle.std.proofs.lemmas.Bool.{true≢false}
use Rattle.std.proofs.lemmas.Cmp.{tied_itself, upto, nat_list_cmp_total}
use Rattle.std.proofs.lemmas.List.{map-append}
use Rattle.std.proofs.lemmas.Map.Lookups.{exact_bytes}
use Rattle.std.specs.Cmp.Lexicographic.{slice_cmp}
use Rattle.std.specs.Ordering.{nat_cmp, ordering_then, ordering_reverse, is_gt}
use Rattle.std.specs.declared.cmp.Ordering.{Ordering}
use Rattle.std.specs.declared.cmp.Ordering.TheVariants.{Less, Equal, Greater}
use Rattle.etp_theory.specs.Orders.{shape_cmp, law_cmp}
use Rattle.etp_theory.specs.Sameness.{IsInjective, Same}
use Rattle.etp_theory.specs.Trees.{Tree, var, op, Shape, fork, Equation, shape_of, word_of, law_word, shape_ops, ops, law_ops, renamed, law_renamed, exchanged}
use Rattle.etp_theory.proofs.Comparing.{nat_cmp-equal}
use Rattle.etp_theory.proofs.Sameness.{renamed_not}
use Rattle.etp_laws.specs.Listing.{Listed}
use Rattle.etp_laws.specs.Occurrences.{by_occurrence}
use Rattle.etp_laws.specs.Canonical.{IsCanonical}
use Rattle.etp_theory.proofs.Orders.{shape_order, shape_equal, shape_counts}
use Rattle.etp_laws.proofs.Occurrences.{renaming_by_occurrence, by_occurrence_least, by_occurrence-map}

pub cases_Ordering : (o : Ordering) → (o ≡ Less) ⊎ ((o ≡ Equal) ⊎ (o ≡ Greater))
cases_Ordering Less = inl refl
cases_Ordering Equal = inr (inl refl)
cases_Ordering Greater = inr (inr refl)

-- what a renaming keeps
pub shape_of-renamed : (f : ℕ → ℕ) (t : Tree) → shape_of (renamed f t) ≡ shape_of t
shape_of-renamed f (var v) = refl
shape_of-renamed f (op l r) = λ i. fork (shape_of-renamed f l i) (shape_of-renamed f r i)

pub word_of-renamed : (f : ℕ → ℕ) (t : Tree) → word_of (renamed f t) ≡ map f (word_of t)
word_of-renamed f (var v) = refl
word_of-renamed f (op l r) = (λ i. word_of-renamed f l i ++ word_of-renamed f r i) ∙ sym (map-append f (word_of l) (word_of r))

pub law_word-renamed : (f : ℕ → ℕ) (p : Equation) → law_word (law_renamed f p) ≡ map f (law_word p)
law_word-renamed f p = word_of-renamed f (op p.left p.right)

-- equal shapes have equal numbers of operations
pub ops-shape_of : (t u : Tree) → shape_of t ≡ shape_of u → ops t ≡ ops u
ops-shape_of t u e = sym (shape_counts t) ∙ ap shape_ops e ∙ shape_counts u

shape_cmp-same : (s t : Shape) → s ≡ t → shape_cmp s t ≡ Equal
shape_cmp-same s t e = ap (shape_cmp s) (sym e) ∙ tied_itself shape_order s

-- laws of one pair of shapes are ordered by their words
pub law_cmp-word : (p q : Equation) → shape_of p.left ≡ shape_of q.left → shape_of p.right ≡ shape_of q.right → law_cmp p q ≡ slice_cmp nat_cmp (law_word p) (law_word q)
law_cmp-word p q e h =
    let a = ops-shape_of p.left q.left e in
    let b = ops-shape_of p.right q.right h in
    (λ i. ordering_then (nat_cmp-equal (law_ops p) (law_ops q) (omega arith) i)
    (ordering_then (shape_cmp-same (shape_of p.left) (shape_of q.left) e i)
    (ordering_then (shape_cmp-same (shape_of p.right) (shape_of q.right) h i)
    (slice_cmp nat_cmp (law_word p) (law_word q)))))

less_or_same : (xs ys : List ℕ) → is_gt (slice_cmp nat_cmp xs ys) ≡ false → (slice_cmp nat_cmp xs ys ≡ Less) ⊎ (xs ≡ ys)
less_or_same xs ys h = by_cases (cases_Ordering (slice_cmp nat_cmp xs ys))
  where
    by_cases : ((slice_cmp nat_cmp xs ys ≡ Less) ⊎ ((slice_cmp nat_cmp xs ys ≡ Equal) ⊎ (slice_cmp nat_cmp xs ys ≡ Greater))) → (slice_cmp nat_cmp xs ys ≡ Less) ⊎ (xs ≡ ys)
    by_cases (inl e) = inl e
    by_cases (inr (inl e)) = inr (exact_bytes xs ys e)
    by_cases (inr (inr e)) = absurd (true≢false (sym (ap is_gt e) ∙ h))

not_below : (xs ys : List ℕ) → is_gt (slice_cmp nat_cmp ys xs) ≡ false → slice_cmp nat_cmp xs ys ≡ Less → ⊥
not_below xs ys h e = true≢false (sym (ap is_gt (nat_list_cmp_total.antisymm ys xs ∙ ap ordering_reverse e)) ∙ h)

-- a word that is numbered is not greater than any renaming of it
pub by_occurrence_below : (f : ℕ → ℕ) → IsInjective f → (w : List ℕ) → is_gt (slice_cmp nat_cmp (by_occurrence w) (map f w)) ≡ false
by_occurrence_below f inj w = subst (λ x. is_gt (slice_cmp nat_cmp x (map f w)) ≡ false) (by_occurrence-map f inj w) (by_occurrence_least (map f w))

-- the law that an earlier one would be
earlier_exchanged : (p q : Equation) → shape_of q.left ≡ shape_of p.right → shape_of q.right ≡ shape_of p.left → law_cmp q p ≡ ordering_then (shape_cmp (shape_of p.right) (shape_of p.left)) (ordering_then (shape_cmp (shape_of p.left) (shape_of p.right)) (slice_cmp nat_cmp (law_word q) (law_word p)))
earlier_exchanged p q e h =
    let a = ops-shape_of q.left p.right e in
    let b = ops-shape_of q.right p.left h in
    (λ i. ordering_then (nat_cmp-equal (law_ops q) (law_ops p) (omega arith) i)
    (ordering_then (shape_cmp (e i) (shape_of p.left))
    (ordering_then (shape_cmp (h i) (shape_of p.right))
    (slice_cmp nat_cmp (law_word q) (law_word p)))))

pub canonical_from_listed : (p : Equation) → Listed p → IsCanonical p
canonical_from_listed p listed = record {
  occurrences = occurs (less_or_same (by_occurrence (law_word p)) (law_word p) (by_occurrence_least (law_word p)));
  shapes = ordered (cases_Ordering (shape_cmp (shape_of p.left) (shape_of p.right)));
  words = λ e. least e (cases_Ordering (slice_cmp nat_cmp (law_word p) (by_occurrence (law_word (exchanged p)))));
  sides = listed.sides;
}
  where
    occurs : ((slice_cmp nat_cmp (by_occurrence (law_word p)) (law_word p) ≡ Less) ⊎ (by_occurrence (law_word p) ≡ law_word p)) → by_occurrence (law_word p) ≡ law_word p
    occurs (inr e) = e
    occurs (inl e) =
        let n = renaming_by_occurrence (law_word p) in
        let q = law_renamed n.to p in
        let w = law_word-renamed n.to p ∙ n.is in
        absurd (listed.first q
        (law_cmp-word q p (shape_of-renamed n.to p.left) (shape_of-renamed n.to p.right) ∙ ap (λ x. slice_cmp nat_cmp x (law_word p)) w ∙ e)
        (n.to, n.injective, inl refl))

    ordered : ((shape_cmp (shape_of p.left) (shape_of p.right) ≡ Less) ⊎ ((shape_cmp (shape_of p.left) (shape_of p.right) ≡ Equal) ⊎ (shape_cmp (shape_of p.left) (shape_of p.right) ≡ Greater))) → is_gt (shape_cmp (shape_of p.left) (shape_of p.right)) ≡ false
    ordered (inl e) = ap is_gt e
    ordered (inr (inl e)) = ap is_gt e
    ordered (inr (inr e)) =
        absurd (listed.first (exchanged p)
        (earlier_exchanged p (exchanged p) refl refl ∙ ap (λ o. ordering_then o (ordering_then (shape_cmp (shape_of p.left) (shape_of p.right)) (slice_cmp nat_cmp (law_word (exchanged p)) (law_word p)))) (shape_order.antisymm (shape_of p.right) (shape_of p.left) ∙ ap ordering_reverse e))
        ((λ x. x), (λ x y e. e), inr (λ i. record { left = renamed_not p.left i; right = renamed_not p.right i })))

    least : shape_of p.left ≡ shape_of p.right → ((slice_cmp nat_cmp (law_word p) (by_occurrence (law_word (exchanged p))) ≡ Less) ⊎ ((slice_cmp nat_cmp (law_word p) (by_occurrence (law_word (exchanged p))) ≡ Equal) ⊎ (slice_cmp nat_cmp (law_word p) (by_occurrence (law_word (exchanged p))) ≡ Greater))) → is_gt (slice_cmp nat_cmp (law_word p) (by_occurrence (law_word (exchanged p)))) ≡ false
    least s (inl e) = ap is_gt e
    least s (inr (inl e)) = ap is_gt e
    least s (inr (inr e)) =
        let n = renaming_by_occurrence (law_word (exchanged p)) in
        let q = law_renamed n.to (exchanged p) in
        let w = law_word-renamed n.to (exchanged p) ∙ n.is in
        absurd (listed.first q
        (law_cmp-word q p (shape_of-renamed n.to p.right ∙ sym s) (shape_of-renamed n.to p.left ∙ s) ∙ ap (λ x. slice_cmp nat_cmp x (law_word p)) w ∙ nat_list_cmp_total.antisymm (by_occurrence (law_word (exchanged p))) (law_word p) ∙ ap ordering_reverse e)
        (n.to, n.injective, inr refl))

pub listed_from_canonical : (p : Equation) → IsCanonical p → Listed p
listed_from_canonical p c = record { sides = c.sides; first = none }
  where
    plain : (f : ℕ → ℕ) → IsInjective f → law_cmp (law_renamed f p) p ≡ Less → ⊥
    plain f inj e =
        not_below (map f (law_word p)) (law_word p)
        (subst (λ x. is_gt (slice_cmp nat_cmp x (map f (law_word p))) ≡ false) c.occurrences (by_occurrence_below f inj (law_word p)))
        (ap (λ x. slice_cmp nat_cmp x (law_word p)) (sym (law_word-renamed f p)) ∙ sym (law_cmp-word (law_renamed f p) p (shape_of-renamed f p.left) (shape_of-renamed f p.right)) ∙ e)

    other : (f : ℕ → ℕ) → IsInjective f → law_cmp (law_renamed f (exchanged p)) p ≡ Less → ((shape_cmp (shape_of p.left) (shape_of p.right) ≡ Less) ⊎ ((shape_cmp (shape_of p.left) (shape_of p.right) ≡ Equal) ⊎ (shape_cmp (shape_of p.left) (shape_of p.right) ≡ Greater))) → ⊥
    other f inj e (inr (inr h)) = true≢false (sym (ap is_gt h) ∙ c.shapes)
    other f inj e (inl h) =
        let g : shape_cmp (shape_of p.right) (shape_of p.left) ≡ Greater = shape_order.antisymm (shape_of p.right) (shape_of p.left) ∙ ap ordering_reverse h in
        let k = earlier_exchanged p (law_renamed f (exchanged p)) (shape_of-renamed f p.right) (shape_of-renamed f p.left) in
        let m = ap (λ o. ordering_then o (ordering_then (shape_cmp (shape_of p.left) (shape_of p.right)) (slice_cmp nat_cmp (law_word (law_renamed f (exchanged p))) (law_word p)))) g in
        let both : Less ≡ Greater = sym e ∙ k ∙ m in cc
    other f inj e (inr (inl h)) =
        let s = shape_equal (shape_of p.left) (shape_of p.right) h in
        let w = law_word (exchanged p) in
        not_below (map f w) (law_word p)
        (upto nat_list_cmp_total (law_word p) (by_occurrence w) (map f w) (c.words s) (by_occurrence_below f inj w))
        (ap (λ x. slice_cmp nat_cmp x (law_word p)) (sym (law_word-renamed f (exchanged p)))
        ∙ sym (law_cmp-word (law_renamed f (exchanged p)) p (shape_of-renamed f p.right ∙ sym s) (shape_of-renamed f p.left ∙ s)) ∙ e)

    none : (q : Equation) → law_cmp q p ≡ Less → ¬ Same p q
    none q e (f, inj, inl h) = plain f inj (ap (λ x. law_cmp x p) h ∙ e)
    none q e (f, inj, inr h) = other f inj (ap (λ x. law_cmp (exchanged x) p) h ∙ e) (cases_Ordering (shape_cmp (shape_of p.left) (shape_of p.right)))
