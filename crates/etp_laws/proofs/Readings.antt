use Rattle.std.proofs.Common.{◌≡◌, ◌≢◌, ℕ, ◌+◌, ◌⊎◌, inl, inr, List, refl, sym, ◌∙◌, ap, subst, false}
use Rattle.std.proofs.lemmas.Bool.{true≢false}
use Rattle.std.proofs.lemmas.Cmp.{nat_list_cmp_total}
use Rattle.std.proofs.lemmas.Map.Lookups.{exact_bytes}
use Rattle.std.specs.Cmp.Lexicographic.{slice_cmp}
use Rattle.std.specs.Ordering.{nat_cmp, ordering_reverse, is_gt}
use Rattle.std.specs.declared.cmp.Ordering.TheVariants.{Less, Equal, Greater}
use Rattle.etp_theory.specs.Orders.{shape_cmp}
use Rattle.etp_theory.specs.Sameness.{IsInjective, Same}
use Rattle.etp_theory.specs.Trees.{Tree, var, op, Shape, Equation, shape_of, law_word, law_ops, renamed, law_renamed, exchanged}
use Rattle.etp_laws.specs.Enumeration.{law_at}
use Rattle.etp_laws.specs.Listing.{Listed}
use Rattle.etp_laws.specs.Occurrences.{by_occurrence}
use Rattle.etp_laws.specs.Canonical.{IsCanonical}
use Rattle.etp_theory.proofs.Orders.{shape_order, shape_equal}
use Rattle.etp_laws.proofs.Occurrences.{renaming_by_occurrence, by_occurrence-map, by_occurrence-by_occurrence}
use Rattle.etp_laws.proofs.Canonical.{cases_Ordering, shape_of-renamed, law_word-renamed, ops-shape_of, canonical_from_listed}
use Rattle.etp_laws.proofs.TheList.{law_at-shapes_of}

pub renamed-injective : (f : ℕ → ℕ) → IsInjective f → (t u : Tree) → renamed f t ≡ renamed f u → t ≡ u
renamed-injective f inj (var v) (var w) e = let h : f v ≡ f w = cc in ap var (inj v w h)
renamed-injective f inj (var v) (op c d) e = cc
renamed-injective f inj (op a b) (var w) e = cc
renamed-injective f inj (op a b) (op c d) e =
    let l : renamed f a ≡ renamed f c = cc in
    let r : renamed f b ≡ renamed f d = cc in
    (λ i. op (renamed-injective f inj a c l i) (renamed-injective f inj b d r i))

-- e is p with its variables numbered by first occurrence
pub record Reading (p e : Equation) : Type 0 where
  pub by : ℕ → ℕ
  pub injective : IsInjective by
  pub is : law_renamed by p ≡ e
  pub word : law_word e ≡ by_occurrence (law_word p)

pub reading_of : (p : Equation) → (e : Equation) × Reading p e
reading_of p =
    let n = renaming_by_occurrence (law_word p) in
    (law_renamed n.to p, record { by = n.to; injective = n.injective; is = refl; word = law_word-renamed n.to p ∙ n.is })

pub left_shape : (p e : Equation) → Reading p e → shape_of e.left ≡ shape_of p.left
left_shape p e r = ap (λ (q : Equation). shape_of q.left) (sym r.is) ∙ shape_of-renamed r.by p.left

pub right_shape : (p e : Equation) → Reading p e → shape_of e.right ≡ shape_of p.right
right_shape p e r = ap (λ (q : Equation). shape_of q.right) (sym r.is) ∙ shape_of-renamed r.by p.right

-- a canonical law that a renaming takes p to is p's reading
reading_from : (p e : Equation) (f : ℕ → ℕ) → IsInjective f → law_renamed f p ≡ e → IsCanonical e → Reading p e
reading_from p e f inj is c = record {
  by = f;
  injective = inj;
  is = is;
  word = sym c.occurrences ∙ ap (λ q. by_occurrence (law_word q)) (sym is) ∙ ap by_occurrence (law_word-renamed f p) ∙ by_occurrence-map f inj (law_word p);
}

-- laws of one pair of shapes and one word are one law
same_law : (p q : Equation) → shape_of p.left ≡ shape_of q.left → shape_of p.right ≡ shape_of q.right → law_word p ≡ law_word q → p ≡ q
same_law p q l r w = sym (law_at-shapes_of p) ∙ (λ i. law_at (l i, r i) (w i)) ∙ law_at-shapes_of q

-- the numbered word of the exchanged reading is that of the exchanged law
exchanged_word : (p e : Equation) → Reading p e → by_occurrence (law_word (exchanged e)) ≡ by_occurrence (law_word (exchanged p))
exchanged_word p e r = ap (λ q. by_occurrence (law_word (exchanged q))) (sym r.is) ∙ ap by_occurrence (law_word-renamed r.by (exchanged p)) ∙ by_occurrence-map r.by r.injective (law_word (exchanged p))

both_ways : (xs ys : List ℕ) → is_gt (slice_cmp nat_cmp xs ys) ≡ false → is_gt (slice_cmp nat_cmp ys xs) ≡ false → xs ≡ ys
both_ways xs ys h k = one (cases_Ordering (slice_cmp nat_cmp xs ys))
  where
    one : ((slice_cmp nat_cmp xs ys ≡ Less) ⊎ ((slice_cmp nat_cmp xs ys ≡ Equal) ⊎ (slice_cmp nat_cmp xs ys ≡ Greater))) → xs ≡ ys
    one (inl e) = absurd (true≢false (sym (ap is_gt (nat_list_cmp_total.antisymm ys xs ∙ ap ordering_reverse e)) ∙ k))
    one (inr (inl e)) = exact_bytes xs ys e
    one (inr (inr e)) = absurd (true≢false (sym (ap is_gt e) ∙ h))

both_shapes : (s t : Shape) → is_gt (shape_cmp s t) ≡ false → is_gt (shape_cmp t s) ≡ false → s ≡ t
both_shapes s t h k = one (cases_Ordering (shape_cmp s t))
  where
    one : ((shape_cmp s t ≡ Less) ⊎ ((shape_cmp s t ≡ Equal) ⊎ (shape_cmp s t ≡ Greater))) → s ≡ t
    one (inl e) = absurd (true≢false (sym (ap is_gt (shape_order.antisymm t s ∙ ap ordering_reverse e)) ∙ k))
    one (inr (inl e)) = shape_equal s t e
    one (inr (inr e)) = absurd (true≢false (sym (ap is_gt e) ∙ h))

-- the readings of a law and of its exchanged law are one law where both are canonical
readings_meet : (p e e' : Equation) → IsCanonical e → IsCanonical e' → Reading p e → Reading (exchanged p) e' → e ≡ e'
readings_meet p e e' c c' r r' =
    same_law e e' (left_shape p e r ∙ same ∙ sym (left_shape (exchanged p) e' r')) (right_shape p e r ∙ sym same ∙ sym (right_shape (exchanged p) e' r'))
    (both_ways (law_word e) (law_word e')
    (subst (λ w. is_gt (slice_cmp nat_cmp (law_word e) w) ≡ false) (exchanged_word p e r ∙ sym r'.word) (c.words (left_shape p e r ∙ same ∙ sym (right_shape p e r))))
    (subst (λ w. is_gt (slice_cmp nat_cmp (law_word e') w) ≡ false) (exchanged_word (exchanged p) e' r' ∙ sym r.word) (c'.words (left_shape (exchanged p) e' r' ∙ sym same ∙ sym (right_shape (exchanged p) e' r')))))
  where
    same : shape_of p.left ≡ shape_of p.right
    same = both_shapes (shape_of p.left) (shape_of p.right)
        (sym (λ i. is_gt (shape_cmp (left_shape p e r i) (right_shape p e r i))) ∙ c.shapes)
        (sym (λ i. is_gt (shape_cmp (left_shape (exchanged p) e' r' i) (right_shape (exchanged p) e' r' i))) ∙ c'.shapes)

-- at most one listed law is the same
pub Listed-unique : (p e e' : Equation) → Listed e → Listed e' → Same p e → Same p e' → e ≡ e'
Listed-unique p e e' l l' (f, inj, inl h) (g, inj', inl k) =
    let r = reading_from p e f inj h (canonical_from_listed e l) in
    let s = reading_from p e' g inj' k (canonical_from_listed e' l') in
    same_law e e' (left_shape p e r ∙ sym (left_shape p e' s)) (right_shape p e r ∙ sym (right_shape p e' s)) (r.word ∙ sym s.word)
Listed-unique p e e' l l' (f, inj, inl h) (g, inj', inr k) =
    readings_meet p e e' (canonical_from_listed e l) (canonical_from_listed e' l')
    (reading_from p e f inj h (canonical_from_listed e l))
    (reading_from (exchanged p) e' g inj' (ap exchanged k) (canonical_from_listed e' l'))
Listed-unique p e e' l l' (f, inj, inr h) (g, inj', inl k) =
    sym (readings_meet p e' e (canonical_from_listed e' l') (canonical_from_listed e l)
    (reading_from p e' g inj' k (canonical_from_listed e' l'))
    (reading_from (exchanged p) e f inj (ap exchanged h) (canonical_from_listed e l)))
Listed-unique p e e' l l' (f, inj, inr h) (g, inj', inr k) =
    let r = reading_from (exchanged p) e f inj (ap exchanged h) (canonical_from_listed e l) in
    let s = reading_from (exchanged p) e' g inj' (ap exchanged k) (canonical_from_listed e' l') in
    same_law e e' (left_shape (exchanged p) e r ∙ sym (left_shape (exchanged p) e' s)) (right_shape (exchanged p) e r ∙ sym (right_shape (exchanged p) e' s)) (r.word ∙ sym s.word)

-- the reading of a law whose left shape is not greater, and whose word is not greater where the shapes are equal, is canonical
pub canonical_reading : (p e : Equation) → Reading p e → is_gt (shape_cmp (shape_of p.left) (shape_of p.right)) ≡ false → (shape_of p.left ≡ shape_of p.right → is_gt (slice_cmp nat_cmp (by_occurrence (law_word p)) (by_occurrence (law_word (exchanged p)))) ≡ false) → p.left ≢ p.right → IsCanonical e
canonical_reading p e r s w n = record {
  occurrences = ap by_occurrence r.word ∙ by_occurrence-by_occurrence (law_word p) ∙ sym r.word;
  shapes = (λ i. is_gt (shape_cmp (left_shape p e r i) (right_shape p e r i))) ∙ s;
  words = λ h. (λ i. is_gt (slice_cmp nat_cmp (r.word i) (exchanged_word p e r i))) ∙ w (sym (left_shape p e r) ∙ h ∙ right_shape p e r);
  sides = inl (λ h. n (renamed-injective r.by r.injective p.left p.right (ap (λ (q : Equation). q.left) r.is ∙ h ∙ sym (ap (λ (q : Equation). q.right) r.is))));
}

pub law_ops-reading : (p e : Equation) → Reading p e → law_ops e ≡ law_ops p
law_ops-reading p e r = λ i. ops-shape_of e.left p.left (left_shape p e r) i + ops-shape_of e.right p.right (right_shape p e r) i
