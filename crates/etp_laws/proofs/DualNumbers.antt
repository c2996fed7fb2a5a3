-- The numbers of duals.
use Rattle.std.proofs.Common.{◌≡◌, ◌≢◌, ℕ, ◌-◌, ◌<◌, ◌≤◌, ◌⊎◌, inl, inr, List, [], ◌∷◌, length, get_or, slice_index, Option, Some, None, sym, ◌∙◌, ap, subst, suc, zero, arith}
use Rattle.std.proofs.lemmas.Bool.{cases_order}
use Rattle.std.proofs.lemmas.Cmp.{tied_itself}
use Rattle.std.proofs.lemmas.List.{length-map, get_or-map}
use Rattle.std.proofs.lemmas.Option.{slice_get-get_or, slice_get_within, slice_get_cases, slice_get_past, get_or_from_slice_get, same_Some}
use Rattle.std.specs.Option.{MatchOption}
use Rattle.std.specs.List.{slice_get}
use Rattle.std.specs.List.Sorted.{IsStrictlySortedBy}
use Rattle.std.specs.Cmp.{IsTotalOrder}
use Rattle.std.specs.declared.cmp.Ordering.{Ordering}
use Rattle.std.specs.declared.cmp.Ordering.TheVariants.{Less}
use Rattle.etp_theory.specs.Trees.{Equation, law_ops, law_dual, dual}
use Rattle.etp_theory.specs.Orders.{law_cmp}
use Rattle.etp_theory.specs.Sameness.{Same}
use Rattle.etp_laws.specs.Listing.{Listed, IsTheList, reflexive_law}
use Rattle.etp_theory.specs.LawNumbers.{IsLaw, IsOwnInverse, law_numbered, dual_number}
use Rattle.etp_theory.proofs.Comparing.{less_not_equal}
use Rattle.etp_theory.proofs.Trees.{dual_dual}
use Rattle.etp_laws.specs.LawLists.{LawList, IsNumberOf, HasNumber, IsDualOf, AreDuals}
use Rattle.etp_laws.specs.Enumeration.{laws_upto}
use Rattle.etp_laws.specs.Places.{number_of, dual_numbers}
use Rattle.etp_theory.proofs.Orders.{law_order}
use Rattle.etp_laws.proofs.Rising.{each}
use Rattle.etp_laws.proofs.Blocks.{In-at}
use Rattle.etp_laws.proofs.Readings.{Listed-unique}
use Rattle.etp_laws.proofs.Duals.{law_ops-dual, dual_of_dual}
use Rattle.etp_laws.proofs.Entries.{the_laws, the_duals, entry_after, entry_zero, Listed-entry, small_entry}
use Rattle.etp_laws.proofs.TheList.{laws_upto_is}
use Rattle.etp_laws.proofs.LawPlaces.{number_is}

later_greater : {X : Type 0} (R : X → X → Ordering) (xs : List X) (i j : ℕ) (d : X) → IsStrictlySortedBy R xs → i < j → j < length xs → R (get_or xs i d) (get_or xs j d) ≡ Less
unfolding IsStrictlySortedBy
later_greater R [] i j d r l h = absurd (omega arith)
later_greater R (x ∷ xs) i zero d r l h = absurd (omega arith)
later_greater R (x ∷ xs) zero (suc j) d r l h = each (λ u. R x u ≡ Less) xs r.0 (get_or xs j d) (In-at xs j d (omega arith))
later_greater R (x ∷ xs) (suc i) (suc j) d r l h = later_greater R xs i j d r.1 (omega arith) (omega arith)

-- an element stands in a rising list once
once : {X : Type 0} (R : X → X → Ordering) → IsTotalOrder R → (xs : List X) (i j : ℕ) (x : X) → IsStrictlySortedBy R xs → i < length xs → j < length xs → get_or xs i x ≡ x → get_or xs j x ≡ x → i ≡ j
once R o xs i j x r a b e h = by_cases (cases_order i j)
  where
    never : (k m : ℕ) → k < m → m < length xs → get_or xs k x ≡ x → get_or xs m x ≡ x → ⊥
    never k m l n p q = less_not_equal (sym (later_greater R xs k m x r l n) ∙ (λ d. R (p d) (q d)) ∙ tied_itself o x)

    by_cases : ((i ≡ j) ⊎ ((i < j) ⊎ (j < i))) → i ≡ j
    by_cases (inl k) = k
    by_cases (inr (inl k)) = absurd (never i j k b e h)
    by_cases (inr (inr k)) = absurd (never j i k a h e)

record Stands (xs : List Equation) (n : ℕ) (e : Equation) : Type 0 where
  some : 0 < n
  within : n ≤ length xs
  at : get_or xs (n - 1) e ≡ e

some_is : (n : ℕ) → (n ≡ 0 → ⊥) → 0 < n
some_is n h = grind arith

stands : (xs : List Equation) (n : ℕ) (e : Equation) → law_numbered xs n ≡ Some e → Stands xs n e
stands xs n e h =
    let some : 0 < n = some_is n (λ z. no_entry (sym h ∙ entry_zero xs n z)) in
    let at : slice_get xs (n - 1) ≡ Some e = sym (entry_after xs n some) ∙ h in
    let within = slice_get_within xs (n - 1) e at in
    record { some = some; within = omega arith; at = get_or_from_slice_get xs (n - 1) e e at }
  where
    no_entry : Some e ≡ None → ⊥
    no_entry z = cc

-- an entry has one number
one_number : (k : ℕ) (xs : List Equation) (n m : ℕ) (e : Equation) → IsTheList k xs → law_numbered xs n ≡ Some e → law_numbered xs m ≡ Some e → n ≡ m
one_number k xs n m e l a b =
    let x = stands xs n e a in
    let y = stands xs m e b in
    let p = x.some in let q = y.some in let r = x.within in let s = y.within in
    let same = once law_cmp law_order xs (n - 1) (m - 1) e l.rising (omega arith) (omega arith) x.at y.at in
    omega arith

pub one_number_of : (k : ℕ) (xs : List Equation) (p : Equation) (n m : ℕ) → IsTheList k xs → IsNumberOf xs p n → IsNumberOf xs p m → n ≡ m
one_number_of k xs p n m l a b =
    let same = Listed-unique p b.entry a.entry (Listed-entry k xs m b.entry l b.stands) (Listed-entry k xs n a.entry l a.stands) b.same a.same in
    one_number k xs n m a.entry l a.stands (b.stands ∙ ap Some same)

-- the dual of a listed law has a number
HasNumber-dual : (e : Equation) → Listed e → HasNumber (law_dual e)
HasNumber-dual e listed = by_sides listed.sides
  where
    by_sides : ((e.left ≢ e.right) ⊎ (e ≡ reflexive_law)) → HasNumber (law_dual e)
    by_sides (inl n) = inl (λ h. n (sym (dual_dual e.left) ∙ ap dual h ∙ dual_dual e.right))
    by_sides (inr t) = inr (0, ap (λ (q : Equation). dual q.left) t, ap (λ (q : Equation). dual q.right) t)

module _ (k : ℕ) (small : k ≤ 5) (xs : List Equation) (is : xs ≡ laws_upto k) (ds : List ℕ) (duals : ds ≡ dual_numbers xs) where
  the_list : IsTheList k xs
  the_list = subst (IsTheList k) (sym is) (laws_upto_is k)

  long : length ds ≡ length xs
  unfolding dual_numbers
  long = ap length duals ∙ length-map xs (λ e. number_of (law_dual e))

  dual_is : (n : ℕ) → 0 < n → n ≤ length xs → IsDualOf xs n (dual_number ds n)
  unfolding dual_numbers
  dual_is n some within =
      let lt : n - 1 < length xs = omega arith in
      let e : Equation = get_or xs (n - 1) reflexive_law in
      let at : law_numbered xs n ≡ Some e = entry_after xs n some ∙ slice_get-get_or xs (n - 1) reflexive_law lt in
      let listed = Listed-entry k xs n e the_list at in
      let few = small_entry k xs n e the_list at in
      let number : number_of (law_dual e) ≡ dual_number ds n = sym (ap (λ ys. slice_index ys (n - 1)) duals ∙ get_or-map (λ e. number_of (law_dual e)) xs (n - 1) reflexive_law 0 lt) in
      record {
        law = e;
        stands = at;
        number = subst (IsNumberOf xs (law_dual e)) number (subst (λ ys. IsNumberOf ys (law_dual e) (number_of (law_dual e))) (sym is) (number_is k (law_dual e) (HasNumber-dual e listed) (let s = law_ops-dual e in omega arith) small));
      }

  pub are_duals : AreDuals xs ds
  are_duals = record { long = long; each = dual_is }

  -- the dual of a law stands in the list
  dual_stands : (n : ℕ) (l : IsLaw (length ds) n) → Stands xs (dual_number ds n) (dual_is n (omega (arith, l.from_one)) (omega (arith, l.to_last, long))).number.entry
  dual_stands n l =
      let a = dual_is n (omega (arith, l.from_one)) (omega (arith, l.to_last, long)) in
      stands xs (dual_number ds n) a.number.entry a.number.stands

  pub own_inverse : IsOwnInverse ds
  own_inverse = record {
    within = λ n l. record { from_one = omega (arith, (dual_stands n l).some); to_last = omega (arith, (dual_stands n l).within, long) };
    twice = λ n l.
        let a = dual_is n (omega (arith, l.from_one)) (omega (arith, l.to_last, long)) in
        let b = dual_is (dual_number ds n) (dual_stands n l).some (dual_stands n l).within in
        back n (dual_number ds n) (dual_number ds (dual_number ds n)) a b;
  }
    where
      back : (n m l : ℕ) → IsDualOf xs n m → IsDualOf xs m l → l ≡ n
      back n m l a b =
          let middle : b.law ≡ a.number.entry = same_Some b.law a.number.entry (sym b.stands ∙ a.number.stands) in
          let e = dual_of_dual a.law a.number.entry b.number.entry (Listed-entry k xs n a.law the_list a.stands) (Listed-entry k xs l b.number.entry the_list b.number.stands) a.number.same (subst (λ q. Same (law_dual q) b.number.entry) middle b.number.same) in
          one_number k xs l n a.law the_list (b.number.stands ∙ ap Some e) a.stands

-- what `Laws` keeps of its duals
module _ (l : LawList) (k : ℕ) (es : List Equation) (ds : List ℕ) (view : (let m : LawList = record { order = k; equations = es; duals = ds } in m ≡ l)) (small : k ≤ 5) (list : ∥ es ≡ laws_upto k ∥₁) (numbers : ∥ ds ≡ dual_numbers es ∥₁) where
  pub duals_of : AreDuals l.equations l.duals
  duals_of = subst (λ (m : LawList). AreDuals m.equations m.duals) view (are_duals k small es (the_laws k es list) ds (the_duals es ds numbers))

  pub inverse_of : IsOwnInverse l.duals
  inverse_of = subst (λ (m : LawList). IsOwnInverse m.duals) view (own_inverse k small es (the_laws k es list) ds (the_duals es ds numbers))

-- the answer of `dual`
pub dual_answer : (es : List Equation) (ds : List ℕ) (n : ℕ) (o : Option ℕ) → AreDuals es ds → 0 < n → o ≡ slice_get ds (n - 1) → MatchOption o (law_numbered es n ≡ None) (λ m. IsDualOf es n m)
dual_answer es ds n o are some e = by_cases (slice_get_cases ds (n - 1)).1
  where
    by_cases : (((x : ℕ) × (n - 1 < length ds) × (slice_get ds (n - 1) ≡ Some x) × (get_or ds (n - 1) x ≡ x)) ⊎ ((length ds ≤ n - 1) × (slice_get ds (n - 1) ≡ None))) → MatchOption o (law_numbered es n ≡ None) (λ m. IsDualOf es n m)
    by_cases (inl (x, inside, is, at)) =
        let long = are.long in
        let here : dual_number ds n ≡ x = get_or_from_slice_get ds (n - 1) x 0 is in
        subst (λ (q : Option ℕ). MatchOption q (law_numbered es n ≡ None) (λ m. IsDualOf es n m)) (sym (e ∙ is)) (subst (IsDualOf es n) here (are.each n some (omega arith)))
    by_cases (inr (past, is)) =
        let long = are.long in
        subst (λ (q : Option ℕ). MatchOption q (law_numbered es n ≡ None) (λ m. IsDualOf es n m)) (sym (e ∙ is)) (entry_after es n some ∙ slice_get_past es (n - 1) (omega arith))

-- the number of a law among those that `Laws` keeps
pub number_answer : (l : LawList) (k : ℕ) (es : List Equation) (ds : List ℕ) (p : Equation) (n : ℕ) → (let m : LawList = record { order = k; equations = es; duals = ds } in m ≡ l) → k ≤ 5 → ∥ es ≡ laws_upto k ∥₁ → HasNumber p → law_ops p ≤ k → n ≡ number_of p → IsNumberOf l.equations p n
number_answer l k es ds p n view small list has few e =
    subst (λ (m : LawList). IsNumberOf m.equations p n) view (subst (λ xs. IsNumberOf xs p n) (sym (the_laws k es list)) (subst (IsNumberOf (laws_upto k) p) (sym e) (number_is k p has few small)))
