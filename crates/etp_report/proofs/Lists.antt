-- Lists of laws, law by law.
use Rattle.std.proofs.Common.{◌≡◌, ℕ, zero, suc, ◌+◌, ◌<◌, ◌≤◌, ◌&&◌, not, nat_eq, Bool, true, false, cond, refl, sym, ◌∙◌, ap, subst, add-one, arith, inl, inr, List, [], ◌∷◌, ◌++◌, length, append-nil, All}
use Rattle.std.specs.Prelude.{filter, map}
use Rattle.std.specs.List.{range_with_len, list_any}
use Rattle.std.proofs.lemmas.Bool.{cases_eq, cases_Bool, eq-eqb, ne_eqb}
use Rattle.std.proofs.lemmas.List.{map-id, map-append}
use Rattle.std.proofs.lemmas.List.FromFn.{map-range_with_len_more, length-range_with_len, get_or-range_with_len}
use Rattle.std.proofs.lemmas.List.Elements.{filter-append, All-from_get_or}
use Rattle.std.proofs.lemmas.List.Filters.{length-filter_both}
use Rattle.etp_theory.specs.LawNumbers.{IsLaw}
use Rattle.etp_closure.specs.declared.facts.Answer.{Answer}
use Rattle.etp_closure.specs.declared.facts.Answer.TheVariants.{Implied, Refuted, Unsettled}
use Rattle.etp_report.specs.Pairs.{is_same}
use Rattle.etp_report.specs.Reports.{laws_to, row_with}

-- one number more
pub range-more : (a n j : ℕ) → a + n ≡ j → range_with_len a (n + 1) ≡ range_with_len a n ++ j ∷ []
range-more a n j at =
    sym (map-id (range_with_len a (n + 1))) ∙ map-range_with_len_more (λ k. k) a n j at ∙ ap (λ (xs : List ℕ). xs ++ j ∷ []) (map-id (range_with_len a n))

-- one law more
pub filter-more : (p : ℕ → Bool) (n : ℕ) → filter p (laws_to (n + 1)) ≡ filter p (laws_to n) ++ cond (p (n + 1)) ((n + 1) ∷ []) []
filter-more p n = ap (filter p) (range-more 1 n (n + 1) (omega arith)) ∙ filter-append p (laws_to n) ((n + 1) ∷ [])

filter-suc : (p : ℕ → Bool) (n : ℕ) → filter p (laws_to (suc n)) ≡ filter p (laws_to n) ++ cond (p (suc n)) (suc n ∷ []) []
filter-suc p n = subst (λ k. filter p (laws_to k) ≡ filter p (laws_to n) ++ cond (p k) (k ∷ []) []) (add-one n) (filter-more p n)

-- a list that grows by the law where it passes
pub grows : (p : ℕ → Bool) (n : ℕ) (old new : List ℕ) → old ≡ filter p (laws_to n) → p (n + 1) ≡ true → new ≡ old ++ (n + 1) ∷ [] → new ≡ filter p (laws_to (n + 1))
grows p n old new so passes e = e ∙ ap (λ (xs : List ℕ). xs ++ (n + 1) ∷ []) so ∙ sym (rw passes at (filter-more p n))

-- and stays where it doesn't
pub stays : (p : ℕ → Bool) (n : ℕ) (old new : List ℕ) → old ≡ filter p (laws_to n) → p (n + 1) ≡ false → new ≡ old → new ≡ filter p (laws_to (n + 1))
stays p n old new so fails e = e ∙ so ∙ sym (rw (fails, append-nil (filter p (laws_to n))) at (filter-more p n))

-- what a list of laws is mapped to, with one law more where it passes
pub map-grows : {A : Type 0} (f : ℕ → A) (p : ℕ → Bool) (n : ℕ) (a : A) (old new : List A) → old ≡ map f (filter p (laws_to n)) → p (n + 1) ≡ true → a ≡ f (n + 1)
    → new ≡ old ++ a ∷ [] → new ≡ map f (filter p (laws_to (n + 1)))
map-grows {A} f p n a old new so passes at e =
    e ∙ ap (λ (xs : List A). xs ++ a ∷ []) so ∙ ap (λ (x : A). map f (filter p (laws_to n)) ++ x ∷ []) at
    ∙ sym (ap (map f) (rw passes at (filter-more p n)) ∙ map-append f (filter p (laws_to n)) ((n + 1) ∷ []))

pub map-stays : {A : Type 0} (f : ℕ → A) (p : ℕ → Bool) (n : ℕ) (old new : List A) → old ≡ map f (filter p (laws_to n)) → p (n + 1) ≡ false
    → new ≡ old → new ≡ map f (filter p (laws_to (n + 1)))
map-stays f p n old new so fails e = e ∙ so ∙ ap (map f) (sym (rw (fails, append-nil (filter p (laws_to n))) at (filter-more p n)))

pub few_pass : (p : ℕ → Bool) (n : ℕ) → length (filter p (laws_to n)) ≤ n
few_pass p n = omega (arith, length-filter_both p (λ k. not (p k)) (λ k. refl) (laws_to n), length-range_with_len 1 n)

earlier : (n f : ℕ) → IsLaw n f → IsLaw (suc n) f
earlier n f l = record { from_one = l.from_one; to_last = let h = l.to_last in omega (arith, h) }

last : (n : ℕ) → IsLaw (suc n) (suc n)
last n = record { from_one = omega arith; to_last = omega arith }

pub all-laws : (n : ℕ) → All (IsLaw n) (laws_to n)
all-laws n = All-from_get_or (IsLaw n) (laws_to n) 0 (λ i h.
    let k : i < n = omega (arith, length-range_with_len 1 n, h) in
    let is = get_or-range_with_len 1 n i 0 k in
    record { from_one = omega (arith, is); to_last = omega (arith, is, k) })

-- tests that agree on the laws
pub filter-same : (p q : ℕ → Bool) (n : ℕ) → ((f : ℕ) → IsLaw n f → p f ≡ q f) → filter p (laws_to n) ≡ filter q (laws_to n)
filter-same p q zero agree = refl
filter-same p q (suc n) agree =
    let middle : filter p (laws_to n) ++ cond (p (suc n)) (suc n ∷ []) [] ≡ filter q (laws_to n) ++ cond (q (suc n)) (suc n ∷ []) [] =
    rw (filter-same p q n (λ f l. agree f (earlier n f l)), agree (suc n) (last n)) refl in
    filter-suc p n ∙ middle ∙ sym (filter-suc q n)

filter-none : (p : ℕ → Bool) (n : ℕ) → ((f : ℕ) → IsLaw n f → p f ≡ false) → filter p (laws_to n) ≡ []
filter-none p zero fails = refl
filter-none p (suc n) fails =
    let none : filter p (laws_to n) ++ cond (p (suc n)) (suc n ∷ []) [] ≡ [] = rw (filter-none p n (λ f l. fails f (earlier n f l)), fails (suc n) (last n)) refl in
    filter-suc p n ∙ none

-- one law passes alone
pub filter-only : (e n : ℕ) → IsLaw n e → filter (nat_eq e) (laws_to n) ≡ e ∷ []
filter-only e zero l = absurd (let a = l.from_one in let b = l.to_last in omega (arith, a, b))
filter-only e (suc n) l = elim (cases_eq e (suc n)) [
  | inl same ↦
      let before : filter (nat_eq e) (laws_to n) ≡ [] = filter-none (nat_eq e) n (λ f k. ne_eqb e f (λ eq. absurd (let h = k.to_last in omega (arith, h, eq, same)))) in
      let one : filter (nat_eq e) (laws_to n) ++ cond (nat_eq e (suc n)) (suc n ∷ []) [] ≡ e ∷ [] = rw (before, eq-eqb e (suc n) same) (ap (λ k. k ∷ []) (sym same)) in
      filter-suc (nat_eq e) n ∙ one
  | inr apart ↦
      let law : IsLaw n e = record { from_one = l.from_one; to_last = let h = l.to_last in omega (arith, h, apart) } in
      let one : filter (nat_eq e) (laws_to n) ++ cond (nat_eq e (suc n)) (suc n ∷ []) [] ≡ e ∷ [] = rw (filter-only e n law, ne_eqb e (suc n) apart) refl in
      filter-suc (nat_eq e) n ∙ one
]

-- a filter of a filter
pub filter-both : (p q : ℕ → Bool) (xs : List ℕ) → filter p (filter q xs) ≡ filter (λ x. p x && q x) xs
filter-both p q [] = refl
filter-both p q (x ∷ xs) = elim (cases_Bool (q x)) [
  | inl on ↦ elim (cases_Bool (p x)) [ inl pass ↦ rw (on, pass, filter-both p q xs) refl | inr fail ↦ rw (on, fail, filter-both p q xs) refl ]
  | inr off ↦ elim (cases_Bool (p x)) [ inl pass ↦ rw (off, pass, filter-both p q xs) refl | inr fail ↦ rw (off, fail, filter-both p q xs) refl ]
]

-- whether some number that passes one test passes the other
pub any-filter : (p q : ℕ → Bool) (xs : List ℕ) → list_any q (filter p xs) ≡ list_any (λ x. p x && q x) xs
any-filter p q [] = refl
any-filter p q (x ∷ xs) = elim (cases_Bool (p x)) [
  | inl on ↦ rw (on, any-filter p q xs) refl
  | inr off ↦ rw (off, any-filter p q xs) refl
]

-- each law has one of the answers in a row
one_of_three : (a : Answer) (x : ℕ) (i r u : List ℕ) → length (cond (is_same a Implied) (x ∷ i) i) + length (cond (is_same a Refuted) (x ∷ r) r) + length (cond (is_same a Unsettled) (x ∷ u) u) ≡ suc (length i + length r + length u)
one_of_three Implied x i r u = omega arith
one_of_three Refuted x i r u = omega arith
one_of_three Unsettled x i r u = omega arith

lengths : (answer : ℕ → Answer) (xs : List ℕ) → length (filter (λ f. is_same (answer f) Implied) xs) + length (filter (λ f. is_same (answer f) Refuted) xs) + length (filter (λ f. is_same (answer f) Unsettled) xs) ≡ length xs
lengths answer [] = refl
lengths answer (x ∷ xs) =
    one_of_three (answer x) x (filter (λ f. is_same (answer f) Implied) xs) (filter (λ f. is_same (answer f) Refuted) xs) (filter (λ f. is_same (answer f) Unsettled) xs)
    ∙ ap suc (lengths answer xs)

pub row_lengths : (answer_to : ℕ → ℕ → Answer) (n e : ℕ) → length (row_with answer_to n Implied e) + length (row_with answer_to n Refuted e) + length (row_with answer_to n Unsettled e) ≡ n
row_lengths answer_to n e = lengths (answer_to e) (laws_to n) ∙ length-range_with_len 1 n
