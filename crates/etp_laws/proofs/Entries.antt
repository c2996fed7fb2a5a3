-- The list that `Laws` holds, and its entries by their numbers.
use Rattle.std.proofs.Common.{◌≡◌, ℕ, zero, suc, refl, ◌-◌, ◌<◌, ◌≤◌, ◌⊎◌, inl, inr, List, ◌^◌, length, get_or, Contains, Some, None, sym, ◌∙◌, ap, subst, arith}
use Rattle.std.proofs.Math.Logic.{∥∥₁_elim}
use Rattle.std.proofs.lemmas.Bool.{cases_lt}
use Rattle.std.proofs.lemmas.List.Elements.{All-contains}
use Rattle.std.proofs.lemmas.Option.{slice_get_cases, none-some}
use Rattle.std.specs.List.{slice_get}
use Rattle.std.specs.Coded.{Coded-set, coded_list, coded_ℕ}
use Rattle.etp_theory.specs.Trees.{Equation, law_ops}
use Rattle.etp_laws.specs.Listing.{Listed, IsTheList}
use Rattle.etp_theory.specs.LawNumbers.{law_numbered}
use Rattle.etp_laws.specs.LawLists.{LawList}
use Rattle.etp_laws.specs.Coding.{coded_equation}
use Rattle.etp_laws.specs.Enumeration.{laws_upto}
use Rattle.etp_laws.specs.Places.{dual_numbers}
use Rattle.etp_laws.proofs.TheList.{laws_upto_is}
use Rattle.etp_laws.proofs.Blocks.{laws_upto_4, laws_upto_5}

-- what stands behind the truncation of the type's invariant
pub the_laws : (k : ℕ) (es : List Equation) → ∥ es ≡ laws_upto k ∥₁ → es ≡ laws_upto k
the_laws k es h = ∥∥₁_elim h (Coded-set (coded_list coded_equation) _ _) (λ h. h)

pub the_list : (l : LawList) (k : ℕ) (es : List Equation) (ds : List ℕ) → (let m : LawList = record { order = k; equations = es; duals = ds } in m ≡ l) → ∥ es ≡ laws_upto k ∥₁ → IsTheList l.order l.equations
the_list l k es ds v h = subst (λ (m : LawList). IsTheList m.order m.equations) v (subst (IsTheList k) (sym (the_laws k es h)) (laws_upto_is k))

pub four_long : (k : ℕ) (es : List Equation) → ∥ es ≡ laws_upto k ∥₁ → k ≡ 4 → length es ≡ 4694
four_long k es h e = ap length (the_laws k es h ∙ ap laws_upto e) ∙ laws_upto_4

pub five_long : (k : ℕ) (es : List Equation) → ∥ es ≡ laws_upto k ∥₁ → k ≡ 5 → length es ≡ 62576
five_long k es h e = ap length (the_laws k es h ∙ ap laws_upto e) ∙ laws_upto_5

pub short_enough : (k : ℕ) (es : List Equation) → ∥ es ≡ laws_upto k ∥₁ → 4 ≤ k → k ≤ 5 → length es < 2 ^ 32
short_enough k es h a b = by_cases (four_or_five a b)
  where
    four_or_five : 4 ≤ k → k ≤ 5 → (k ≡ 4) ⊎ (k ≡ 5)
    four_or_five a b = grind arith

    by_cases : ((k ≡ 4) ⊎ (k ≡ 5)) → length es < 2 ^ 32
    by_cases (inl e) = let l = four_long k es h e in omega arith
    by_cases (inr e) = let l = five_long k es h e in omega arith

pub entry_after : (xs : List Equation) (n : ℕ) → 0 < n → law_numbered xs n ≡ slice_get xs (n - 1)
entry_after xs zero h = absurd (omega (arith, h))
entry_after xs (suc k) h =
    let same : k ≡ suc k - 1 = omega arith in
    ap (slice_get xs) same

pub entry_zero : (xs : List Equation) (n : ℕ) → n ≡ 0 → law_numbered xs n ≡ None
entry_zero xs zero h = refl
entry_zero xs (suc k) h = absurd (omega (arith, h))

pub Contains-entry : (xs : List Equation) (n : ℕ) (e : Equation) → law_numbered xs n ≡ Some e → Contains xs e
Contains-entry xs n e h = by_cases (cases_lt 0 n)
  where
    by_place : 0 < n → (((x : Equation) × (n - 1 < length xs) × (slice_get xs (n - 1) ≡ Some x) × (get_or xs (n - 1) x ≡ x)) ⊎ ((length xs ≤ n - 1) × (slice_get xs (n - 1) ≡ None))) → Contains xs e
    by_place l (inl (x, inside, is, at)) =
        let same : Some x ≡ Some e = sym is ∙ sym (entry_after xs n l) ∙ h in
        let eq : x ≡ e = cc in
        (n - 1, inside, (λ i. get_or xs (n - 1) (sym eq i)) ∙ at ∙ eq)
    by_place l (inr (past, is)) = absurd (none-some e (sym (sym h ∙ entry_after xs n l ∙ is)))

    by_cases : (0 < n) ⊎ (n ≤ 0) → Contains xs e
    by_cases (inl l) = by_place l (slice_get_cases xs (n - 1)).1
    by_cases (inr l) = absurd (none-some e (sym (sym h ∙ entry_zero xs n (omega arith))))

pub Listed-entry : (k : ℕ) (xs : List Equation) (n : ℕ) (e : Equation) → IsTheList k xs → law_numbered xs n ≡ Some e → Listed e
Listed-entry k xs n e l h = All-contains Listed xs e l.sound (Contains-entry xs n e h)

pub small_entry : (k : ℕ) (xs : List Equation) (n : ℕ) (e : Equation) → IsTheList k xs → law_numbered xs n ≡ Some e → law_ops e ≤ k
small_entry k xs n e l h = All-contains (λ p. law_ops p ≤ k) xs e l.small (Contains-entry xs n e h)

-- what stands behind the truncation of the numbers of the duals
pub the_duals : (es : List Equation) (ds : List ℕ) → ∥ ds ≡ dual_numbers es ∥₁ → ds ≡ dual_numbers es
the_duals es ds h = ∥∥₁_elim h (Coded-set (coded_list coded_ℕ) _ _) (λ h. h)
