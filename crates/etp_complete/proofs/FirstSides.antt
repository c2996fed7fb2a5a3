-- A listed law that isn't the first has two different sides, which are their own normal forms where
-- there are no rules.
use Rattle.std.proofs.Common.{◌≡◌, ◌≢◌, ℕ, zero, suc, ◌<◌, ◌≤◌, ◌⊎◌, inl, inr, List, [], ◌∷◌, Some, None, slice_get, refl, sym, ap, ap₂, ◌∙◌, subst, arith}
use Rattle.std.specs.Ordering.{nat_cmp, ordering_then}
use Rattle.std.specs.Cmp.{nat_cmp_is}
use Rattle.std.specs.List.Sorted.{IsStrictlySortedBy}
use Rattle.std.specs.declared.cmp.Ordering.{Ordering}
use Rattle.std.specs.declared.cmp.Ordering.TheVariants.{Less, Equal, Greater}
use Rattle.std.proofs.lemmas.List.Elements.{All-contains}
use Rattle.std.proofs.lemmas.Map.Views.{All-after_first}
use Rattle.std.proofs.lemmas.Option.{slice_get_within, get_or_from_slice_get}
use Rattle.etp_theory.specs.Trees.{Tree, var, op, leaves, law_ops, Equation}
use Rattle.etp_theory.specs.Orders.{law_cmp}
use Rattle.etp_theory.specs.LawNumbers.{law_numbered}
use Rattle.etp_theory.specs.Strategy.{next, first_some, within}
use Rattle.etp_theory.specs.Forms.{IsFormOf}
use Rattle.etp_theory.specs.FailingOverlaps.{two_forms}
use Rattle.etp_theory.proofs.Convergent.{walk_stays}
use Rattle.etp_theory.proofs.Theorems.{term_theorems}
use Rattle.etp_laws.specs.Listing.{IsTheList, reflexive_law}
use Rattle.etp_laws.proofs.Entries.{Listed-entry}
use Rattle.etp_laws.proofs.SmallLaws.{listed_small}
use Rattle.etp_canonical.specs.Judgements.{IsFoundOf}

-- no law comes before `x = x`

above : (m : ℕ) (o : Ordering) → 0 < m → ordering_then (nat_cmp m 0) o ≡ Less → ⊥
above m o l h =
    let g : Greater ≡ nat_cmp m 0 = nat_cmp_is m 0 Greater l in
    let k : Greater ≡ Less = ap (λ c. ordering_then c o) g ∙ h in
    absurd (cc)

letters : (a b : ℕ) → ordering_then (nat_cmp a 0) (ordering_then (nat_cmp b 0) Equal) ≡ Less → ⊥
letters zero zero h = let k : Equal ≡ Less = h in absurd (cc)
letters zero (suc b) h = above (suc b) Equal (omega arith) h
letters (suc a) b h = above (suc a) (ordering_then (nat_cmp b 0) Equal) (omega arith) h

none_before : (l r : Tree) → law_cmp (record { left = l; right = r }) reflexive_law ≡ Less → ⊥
none_before (var a) (var b) h = letters a b h
none_before (var a) (op c d) h = above (law_ops (record { left = var a; right = op c d })) _ (omega arith) h
none_before (op a b) r h = above (law_ops (record { left = op a b; right = r })) _ (omega arith) h

-- so it is the first of the list

earlier : (xs : List Equation) (k : ℕ) (e : Equation) → IsStrictlySortedBy law_cmp xs → slice_get xs (suc k) ≡ Some e → (x : Equation) × (law_cmp x e ≡ Less)
earlier [] k e s h = absurd (let l : suc k < 0 = slice_get_within [] (suc k) e h in omega (arith, l))
earlier (x ∷ xs) k e s h =
    (x, All-contains (λ y. law_cmp x y ≡ Less) xs e (All-after_first law_cmp x xs s) (k, slice_get_within xs k e h, get_or_from_slice_get xs k e e h))

pub sides_differ : (order : ℕ) (laws : List Equation) (n : ℕ) (e : Equation) → IsTheList order laws → 2 ≤ n → law_numbered laws n ≡ Some e → e.left ≢ e.right
sides_differ order laws zero e list l h = absurd (omega (arith, l))
sides_differ order laws (suc zero) e list l h = absurd (omega (arith, l))
sides_differ order laws (suc (suc m)) e list l h = go (Listed-entry order laws (suc (suc m)) e list h).sides
  where
    go : (e.left ≢ e.right) ⊎ (e ≡ reflexive_law) → e.left ≢ e.right
    go (inl d) = d
    go (inr is) =
        let x = earlier laws m e list.rising h in
        absurd (none_before x.0.left x.0.right (ap (law_cmp x.0) (sym is) ∙ x.1))

-- where there are no rules no term has a step

no_step : (t : Tree) → next [] t ≡ None
no_step (var v) = refl
no_step (op l r) =
    ap₂ (λ a b. first_some (within (λ x. op x r) a) (first_some (within (λ x. op l x) b) None)) (no_step l) (no_step r)

own_form : (t : Tree) → leaves t ≤ 512 → IsFormOf [] t t
own_form t few = record {
  steps = 0;
  few = omega arith;
  reached = refl;
  ended = no_step t;
  narrow = λ k. subst (λ z. leaves z ≤ 512) (sym (walk_stays [] k t (no_step t))) few;
}

pub only_form : (t u : Tree) → IsFormOf [] t u → t ≡ u
only_form t u f = sym (walk_stays [] f.steps t (no_step t)) ∙ f.reached

pub first_forms : (order : ℕ) (laws : List Equation) (n : ℕ) (e : Equation) → IsTheList order laws → (order ≡ 4) ⊎ (order ≡ 5) → 2 ≤ n → law_numbered laws n ≡ Some e → IsFoundOf laws [] n (two_forms e.left e.right)
first_forms order laws n e list known l h =
    let small = listed_small order laws n e list known h in
    let left_few : leaves e.left ≤ 512 = omega (arith, term_theorems.leaves_ops e.left, small.left_ops) in
    let right_few : leaves e.right ≤ 512 = omega (arith, term_theorems.leaves_ops e.right, small.right_ops) in
    record {
      law = e;
      listed = h;
      found = (own_form e.left left_few, own_form e.right right_few, sides_differ order laws n e list l h);
    }
