-- The values of bound variables, found by the place of each in their order.
use Rattle.std.proofs.Common.{◌≡◌, ℕ, zero, suc, ◌<◌, ◌≤◌, ◌⊎◌, inl, inr, Bool, true, false, cond, eqb, ◌||◌, List, [], ◌∷◌, ◌++◌, length, map, take, Option, Some, None, slice_get, refl, sym, ap, ◌∙◌, subst, eq-eqb, arith, length-append}
use Rattle.std.proofs.Math.ListN.{set, length-set}
use Rattle.std.specs.List.{list_any}
use Rattle.std.proofs.lemmas.Bool.{ne_eqb}
use Rattle.std.proofs.lemmas.Map.Steps.{le-length_from_below}
use Rattle.std.proofs.lemmas.Option.{same_Some}
use Rattle.etp_theory.specs.Trees.{Tree}
use Rattle.etp_term.specs.Terms.{tree_of}
use Rattle.etp_match.specs.Bindings.{value_of, entry_of}
use Rattle.etp_match.specs.Indexes.{binding_of, IsIndex}
use Rattle.etp_match.specs.declared.table.Bound.{Bound}

abbrev pub entries : List Bound → List (ℕ × Tree)
entries bound = map entry_of (map binding_of bound)

-- where no bound variable is this one, it has no value, and the other way round
absent : (xs : List Bound) (v : ℕ) → ((k : ℕ) (b : Bound) → slice_get xs k ≡ Some b → b.variable ≡ v → ⊥) → value_of (entries xs) v ≡ None
absent [] v h = refl
absent (x ∷ xs) v h =
    ap (λ c. cond c (Some (tree_of x.value.now)) (value_of (entries xs) v)) (ne_eqb x.variable v (h zero x refl))
    ∙ absent xs v (λ k. h (suc k))

rest_none : (b : Bool) (t : Tree) (o : Option Tree) → cond b (Some t) o ≡ None → o ≡ None
rest_none true t o h = absurd (cc)
rest_none false t o h = h

none_is : (xs : List Bound) (v : ℕ) → value_of (entries xs) v ≡ None → (k : ℕ) (b : Bound) → slice_get xs k ≡ Some b → b.variable ≡ v → ⊥
none_is [] v h k b g e = let f : None ≡ Some b = g in cc
none_is (x ∷ xs) v h zero b g e =
    let same : x ≡ b = same_Some _ _ g in
    let here : x.variable ≡ v = ap (λ (y : Bound). y.variable) same ∙ e in
    let f : Some (tree_of x.value.now) ≡ None = sym (ap (λ c. cond c (Some (tree_of x.value.now)) (value_of (entries xs) v)) (eq-eqb x.variable v here)) ∙ h in cc
none_is (x ∷ xs) v h (suc k) b g e = none_is xs v (rest_none (eqb x.variable v) (tree_of x.value.now) (value_of (entries xs) v) h) k b g e

-- a variable that is bound at one place alone has the value that stands there
present : (xs : List Bound) (k : ℕ) (b : Bound) → slice_get xs k ≡ Some b → ((j : ℕ) (c : Bound) → slice_get xs j ≡ Some c → c.variable ≡ b.variable → j ≡ k) → value_of (entries xs) b.variable ≡ Some (tree_of b.value.now)
present [] k b h u = let f : None ≡ Some b = h in absurd (cc)
present (x ∷ xs) zero b h u =
    let same : x ≡ b = same_Some _ _ h in
    subst (λ (y : Bound). cond (eqb y.variable b.variable) (Some (tree_of y.value.now)) (value_of (entries xs) b.variable) ≡ Some (tree_of b.value.now)) (sym same)
    (ap (λ c. cond c (Some (tree_of b.value.now)) (value_of (entries xs) b.variable)) (eq-eqb b.variable b.variable refl))
present (x ∷ xs) (suc k) b h u =
    ap (λ c. cond c (Some (tree_of x.value.now)) (value_of (entries xs) b.variable)) (ne_eqb x.variable b.variable (λ e. let f : zero ≡ suc k = u zero x refl e in cc))
    ∙ present xs k b h (λ j c g e. let f : suc j ≡ suc k = u (suc j) c g e in cc)

module _ (xs : List Bound) (places : List ℕ) (i : IsIndex xs places) where
  one_place : (j k : ℕ) (c b : Bound) → slice_get xs j ≡ Some c → slice_get xs k ≡ Some b → c.variable ≡ b.variable → j ≡ k
  one_place j k c b g h e = same_Some _ _ (sym (i.placed j c g) ∙ ap (slice_get places) e ∙ i.placed k b h)

  module _ (v p : ℕ) (at : slice_get places v ≡ Some p) where
    placed_there : (j : ℕ) (c : Bound) → slice_get xs j ≡ Some c → c.variable ≡ v → j ≡ p
    placed_there j c g e = same_Some _ _ (sym (i.placed j c g) ∙ ap (slice_get places) e ∙ at)

    pub value_there : (b : Bound) → slice_get xs p ≡ Some b → b.variable ≡ v → value_of (entries xs) v ≡ Some (tree_of b.value.now)
    value_there b h e =
        subst (λ w. value_of (entries xs) w ≡ Some (tree_of b.value.now)) e (present xs p b h (λ j c g f. one_place j p c b g h f))

    pub other_there : (b : Bound) → slice_get xs p ≡ Some b → (b.variable ≡ v → ⊥) → value_of (entries xs) v ≡ None
    other_there b h n = absent xs v (λ j c g e.
        let same : c ≡ b = same_Some _ _ (sym (subst (λ k. slice_get xs k ≡ Some c) (placed_there j c g e) g) ∙ h) in
        n (ap (λ (y : Bound). y.variable) (sym same) ∙ e))

    pub none_there : slice_get xs p ≡ None → value_of (entries xs) v ≡ None
    none_there h = absent xs v (λ j c g e. let f : Some c ≡ None = sym (subst (λ k. slice_get xs k ≡ Some c) (placed_there j c g e) g) ∙ h in cc)

set_here : {A : Type 0} (xs : List A) (i : ℕ) (x : A) → i < length xs → slice_get (set xs i x) i ≡ Some x
set_here [] i x h = absurd (omega arith)
set_here (y ∷ ys) zero x h = refl
set_here (y ∷ ys) (suc i) x h = set_here ys i x (omega arith)

set_elsewhere : {A : Type 0} (xs : List A) (i j : ℕ) (x : A) → (i ≡ j → ⊥) → slice_get (set xs i x) j ≡ slice_get xs j
set_elsewhere [] i j x h = refl
set_elsewhere (y ∷ ys) zero zero x h = absurd (h refl)
set_elsewhere (y ∷ ys) zero (suc j) x h = refl
set_elsewhere (y ∷ ys) (suc i) zero x h = refl
set_elsewhere (y ∷ ys) (suc i) (suc j) x h = set_elsewhere ys i j x (λ e. h (ap suc e))

end_at : (xs : List Bound) (b : Bound) (k : ℕ) (c : Bound) → slice_get (xs ++ b ∷ []) k ≡ Some c → (slice_get xs k ≡ Some c) ⊎ ((k ≡ length xs) × (b ≡ c))
end_at [] b zero c h = inr (refl, same_Some _ _ h)
end_at [] b (suc k) c h = let f : None ≡ Some c = h in absurd (cc)
end_at (x ∷ xs) b zero c h = inl h
end_at (x ∷ xs) b (suc k) c h = elim (end_at xs b k c h) [ inl g ↦ inl g | inr g ↦ inr (ap suc g.0, g.1) ]

-- one more variable is bound
module _ (xs : List Bound) (places : List ℕ) (b : Bound) (i : IsIndex xs places) (fits : b.variable < 256) (new : value_of (entries xs) b.variable ≡ None) where
  pub bound_more : IsIndex (xs ++ b ∷ []) (set places b.variable (length xs))
  bound_more = record {
    size = length-set places b.variable (length xs) ∙ i.size;
    placed = λ k c g. elim (end_at xs b k c g) [
      | inl h ↦ set_elsewhere places b.variable c.variable (length xs) (λ e. none_is xs b.variable new k c h (sym e)) ∙ i.placed k c h
      | inr h ↦ subst (λ (y : Bound). slice_get (set places b.variable (length xs)) y.variable ≡ Some k) h.1
          (set_here places b.variable (length xs) (subst (λ n. b.variable < n) (sym i.size) fits) ∙ ap Some (sym h.0))
    ];
  }

or_true : (b : Bool) → b || true ≡ true
or_true true = refl
or_true false = refl

any_at : (xs : List ℕ) (k q : ℕ) → slice_get xs k ≡ Some q → list_any (eqb q) xs ≡ true
any_at [] k q h = let f : None ≡ Some q = h in absurd (cc)
any_at (x ∷ xs) zero q h = ap (λ b. b || list_any (eqb q) xs) (eq-eqb q x (sym (same_Some _ _ h)))
any_at (x ∷ xs) (suc k) q h = ap (λ b. eqb q x || b) (any_at xs k q h) ∙ or_true (eqb q x)

stands : (xs : List Bound) (k : ℕ) → k < length xs → (b : Bound) × (slice_get xs k ≡ Some b)
stands [] k h = absurd (omega arith)
stands (x ∷ xs) zero h = (x, refl)
stands (x ∷ xs) (suc k) h = stands xs k (omega arith)

-- each place stands in the table, so there are at most as many as the table has
at_most : (xs : List Bound) (places : List ℕ) → IsIndex xs places → length xs ≤ 256
at_most xs places i =
    subst (λ n. length xs ≤ n) i.size (le-length_from_below places (length xs) (λ q h. let s = stands xs q h in any_at places s.0.variable q (i.placed q s.0 s.1)))

pub room_left : (xs : List Bound) (places : List ℕ) (b : Bound) → IsIndex xs places → b.variable < 256 → value_of (entries xs) b.variable ≡ None → length xs < 256
room_left xs places b i fits new =
    omega (arith, at_most (xs ++ b ∷ []) (set places b.variable (length xs)) (bound_more xs places b i fits new), length-append xs (b ∷ []))

take_at : (n : ℕ) (xs : List Bound) (k : ℕ) (c : Bound) → slice_get (take n xs) k ≡ Some c → slice_get xs k ≡ Some c
take_at zero xs k c h = let f : None ≡ Some c = h in absurd (cc)
take_at (suc n) [] k c h = h
take_at (suc n) (x ∷ xs) zero c h = h
take_at (suc n) (x ∷ xs) (suc k) c h = take_at n xs k c h

pub first_bound : (n : ℕ) (xs : List Bound) (places : List ℕ) → IsIndex xs places → IsIndex (take n xs) places
first_bound n xs places i = record { size = i.size; placed = λ k c g. i.placed k c (take_at n xs k c g) }

pub none_bound : (places : List ℕ) → length places ≡ 256 → IsIndex [] places
none_bound places h = record { size = h; placed = λ k c g. let f : None ≡ Some c = g in absurd (cc) }
