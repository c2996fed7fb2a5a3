-- Classes of equivalent laws, by what is reached.
use Rattle.std.proofs.Common.{◌≡◌, ℕ, zero, suc, ◌+◌, ◌-◌, ◌<◌, ◌≤◌, ◌&&◌, not, nat_eq, nat_lt, Bool, true, false, if◌then◌else◌, refl, sym, ◌∙◌, ap, subst, arith, inl, inr, List, [], ◌∷◌, ◌++◌, length, get_or, take, Option, Some, None, All, append-nil, length-take-le, take_all}
use Rattle.std.specs.Prelude.{filter, is_some, unwrap_or}
use Rattle.std.specs.List.{list_any}
use Rattle.std.proofs.lemmas.Bool.{cases_eq, cases_Bool, eqb-true, eq-eqb, ne_eqb, both_ways, false≢true, and_parts, and_from, le-ltb, lt-ltb, false_from_ne_true}
use Rattle.std.proofs.lemmas.List.{get_or-map}
use Rattle.std.proofs.lemmas.List.Elements.{All-get_or, All-same, filter_more, filter_passes}
use Rattle.std.proofs.lemmas.List.Filters.{length-filter_both}
use Rattle.std.proofs.lemmas.List.Folds.{list_any_at, list_any-append}
use Rattle.etp_bits.specs.Bits.{Bits, bit}
use Rattle.etp_bits.specs.Counts.{count_below}
use Rattle.etp_theory.specs.LawNumbers.{IsLaw}
use Rattle.etp_closure.specs.Closures.{Known, slot_of, is_reached, is_covered}
use Rattle.etp_closure.specs.Answers.{answer_of}
use Rattle.etp_closure.specs.declared.facts.Answer.TheVariants.{Implied}
use Rattle.etp_report.specs.Pairs.{is_same}
use Rattle.etp_report.specs.Reports.{laws_to, are_equivalent, class_with, is_least}
use Rattle.etp_report.specs.Candidates.{implies_one, candidate_slot, candidates, AreCandidates, IsClassOfLeast}
use Rattle.etp_report.proofs.Sums.{implied_if}
use Rattle.etp_report.proofs.Lists.{few_pass, filter-same, filter-only, filter-both, any-filter}

module _ (known : Known) where
  reached : (e f : ℕ) → is_same (answer_of known e f) Implied ≡ is_reached known e f
  reached e f = implied_if (is_reached known e f) (is_covered known e f)

  -- both laws reach each other
  pub equivalent-reached : (e f : ℕ) → are_equivalent (answer_of known) e f ≡ (is_reached known e f && is_reached known f e)
  equivalent-reached e f = ap (λ b. b && is_same (answer_of known f e) Implied) (reached e f) ∙ ap (λ b. is_reached known e f && b) (reached f e)

  reach_back : (e f : ℕ) → are_equivalent (answer_of known) e f ≡ true → is_reached known f e ≡ true
  reach_back e f on = (and_parts (is_reached known e f) (is_reached known f e) (sym (equivalent-reached e f) ∙ on)).1

  reached-bit : (e f s t : ℕ) → slot_of known.slots e ≡ Some s → slot_of known.slots f ≡ Some t → is_reached known e f ≡ bit known.reached s t
  unfolding is_reached
  reached-bit e f s t i j = rw (i, j) refl

  -- by the slots of both laws
  pub equivalent-bits : (e f s t : ℕ) → slot_of known.slots e ≡ Some s → slot_of known.slots f ≡ Some t
      → are_equivalent (answer_of known) e f ≡ (bit known.reached s t && bit known.reached t s)
  equivalent-bits e f s t i j =
      equivalent-reached e f
      ∙ ap (λ b. b && is_reached known f e) (reached-bit e f s t i j)
      ∙ ap (λ b. bit known.reached s t && b) (reached-bit f e t s j i)

-- a law that reaches itself alone is alone in its class
module _ (known : Known) (n e : ℕ) (law : IsLaw n e) (alone : (f : ℕ) → IsLaw n f → is_reached known e f ≡ nat_eq e f) where
  itself : is_reached known e e ≡ true
  itself = alone e law ∙ eq-eqb e e refl

  as_one : (f : ℕ) → IsLaw n f → are_equivalent (answer_of known) e f ≡ nat_eq e f
  as_one f l =
      equivalent-reached known e f
      ∙ elim (cases_eq e f) [
        | inl same ↦ subst (λ k. (is_reached known e k && is_reached known k e) ≡ nat_eq e k) same (rw (itself, eq-eqb e e refl) refl)
        | inr apart ↦ rw (alone f l, ne_eqb e f apart) refl
      ]

  pub lone-class : class_with (answer_of known) n e ≡ e ∷ []
  lone-class = filter-same (are_equivalent (answer_of known) e) (nat_eq e) n as_one ∙ filter-only e n law

  pub lone-least : is_least (answer_of known) n e ≡ true
  lone-least = ap (λ (xs : List ℕ). not (list_any (λ f. nat_lt f e) xs)) lone-class ∙ rw (le-ltb e e (omega arith)) refl

-- a law that isn't kept reaches itself alone
pub unkept-alone : (known : Known) (e : ℕ) → slot_of known.slots e ≡ None → (f : ℕ) → is_reached known e f ≡ nat_eq e f
unfolding is_reached
unkept-alone known e none f = rw none refl

none_passes : (p : ℕ → Bool) (n k : ℕ) → count_below p n ≡ 0 → k < n → p k ≡ false
none_passes p zero k h l = absurd (omega arith)
none_passes p (suc n) k h l = elim (cases_Bool (p n)) [
  | inl on ↦ let e : count_below p n + 1 ≡ 0 = rw on at h in absurd (omega (arith, e))
  | inr off ↦
      let rest : count_below p n + 0 ≡ 0 = rw off at h in
      elim (cases_eq k n) [
        | inl same ↦ ap p same ∙ off
        | inr apart ↦ none_passes p n k (omega (arith, rest)) (omega (arith, l, apart))
      ]
]

-- where one number passes, all that pass are the same
one_passes : (p : ℕ → Bool) (n i j : ℕ) → count_below p n ≡ 1 → i < n → j < n → p i ≡ true → p j ≡ true → i ≡ j
one_passes p zero i j h l m on on' = absurd (omega arith)
one_passes p (suc n) i j h l m on on' = elim (cases_Bool (p n)) [
  | inl here ↦
      let all : count_below p n + 1 ≡ 1 = rw here at h in
      let rest : count_below p n ≡ 0 = omega (arith, all) in
      let at : (k : ℕ) → k < suc n → p k ≡ true → k ≡ n =
      (λ k b pass. elim (cases_eq k n) [ inl same ↦ same | inr apart ↦ absurd (both_ways (p k) (none_passes p n k rest (omega (arith, b, apart))) pass) ]) in
      at i l on ∙ sym (at j m on')
  | inr off ↦
      let all : count_below p n + 0 ≡ 1 = rw off at h in
      let rest : count_below p n ≡ 1 = omega (arith, all) in
      let below : (k : ℕ) → k < suc n → p k ≡ true → k < n =
      (λ k b pass. elim (cases_eq k n) [ inl same ↦ absurd (both_ways (p k) (ap p same ∙ off) pass) | inr apart ↦ omega (arith, b, apart) ]) in
      one_passes p n i j rest (below i l on) (below j m on') on on'
]

-- a law that reaches itself and one law in all reaches itself alone
pub counted-alone : (known : Known) (n e : ℕ) → IsLaw n e → is_reached known e e ≡ true → count_below (λ place. is_reached known e (place + 1)) n ≡ 1
    → (f : ℕ) → IsLaw n f → is_reached known e f ≡ nat_eq e f
counted-alone known n e law self one f l = elim (cases_eq e f) [
  | inl same ↦ subst (λ k. is_reached known e k ≡ nat_eq e k) same (self ∙ sym (eq-eqb e e refl))
  | inr apart ↦
      let at : (k : ℕ) → IsLaw n k → (k - 1) + 1 ≡ k = λ k i. (let a = i.from_one in omega arith) in
      let off : is_reached known e f ≡ false = false_from_ne_true (is_reached known e f) (λ on.
      let same : e - 1 ≡ f - 1 = one_passes (λ place. is_reached known e (place + 1)) n (e - 1) (f - 1) one
      (let a = law.from_one in let b = law.to_last in omega arith) (let a = l.from_one in let b = l.to_last in omega arith)
      (ap (is_reached known e) (at e law) ∙ self) (ap (is_reached known e) (at f l) ∙ on) in
      apart (let a = law.from_one in let b = l.from_one in omega (arith, same))) in
      off ∙ sym (ne_eqb e f apart)
]

if-none : (b : Bool) (o : Option ℕ) → (if b then None else o) ≡ None → b ≡ false → o ≡ None
if-none true o none off = absurd (false≢true (sym off))
if-none false o none off = none

if-some : (b : Bool) (o : Option ℕ) → is_some (if b then None else o) ≡ true → o ≡ Some (unwrap_or o 0)
if-some true o on = absurd (false≢true on)
if-some false (Some s) on = refl
if-some false None on = absurd (false≢true on)

if-is : (b : Bool) (o : Option ℕ) (s : ℕ) → (if b then None else o) ≡ Some s → o ≡ Some s
if-is true o s is = absurd (cc)
if-is false o s is = is

-- a law that is no candidate reaches itself alone
none-alone : (known : Known) (e : ℕ) → IsLaw (length known.duals) e → candidate_slot known e ≡ None
    → (f : ℕ) → IsLaw (length known.duals) f → is_reached known e f ≡ nat_eq e f
none-alone known e law none f l =
    let count = count_below (λ place. is_reached known e (place + 1)) (length known.duals) in
    elim (cases_Bool (implies_one known e)) [
      | inl one ↦
          let parts = and_parts (is_reached known e e) (nat_eq count 1) one in
          counted-alone known (length known.duals) e law parts.0 (eqb-true count 1 parts.1) f l
      | inr more ↦ unkept-alone known e (if-none (implies_one known e) (slot_of known.slots e) none more) f
    ]

-- a candidate is equivalent to candidates alone
candidate-too : (known : Known) (e s : ℕ) → IsLaw (length known.duals) e → candidate_slot known e ≡ Some s
    → (f : ℕ) → IsLaw (length known.duals) f → are_equivalent (answer_of known) e f ≡ true → is_some (candidate_slot known f) ≡ true
candidate-too known e s law at f l on = go (candidate_slot known f) refl where
  go : (o : Option ℕ) → candidate_slot known f ≡ o → is_some o ≡ true
  go (Some t) i = refl
  go None i =
      let same : f ≡ e = eqb-true f e (sym (none-alone known f l i e law) ∙ reach_back known e f on) in
      let clash : Some s ≡ None = sym at ∙ ap (candidate_slot known) (sym same) ∙ i in
      absurd (cc)

both_is_first : (a b : Bool) → (a ≡ true → b ≡ true) → (a && b) ≡ a
both_is_first true b h = h refl
both_is_first false b h = refl

-- the class of a candidate is among the candidates
candidate-class : (known : Known) (e s : ℕ) → IsLaw (length known.duals) e → candidate_slot known e ≡ Some s
    → filter (are_equivalent (answer_of known) e) (candidates known) ≡ class_with (answer_of known) (length known.duals) e
candidate-class known e s law at =
    let p = are_equivalent (answer_of known) e in
    let q : ℕ → Bool = λ f. is_some (candidate_slot known f) in
    filter-both p q (laws_to (length known.duals))
    ∙ filter-same (λ f. p f && q f) p (length known.duals) (λ f l. both_is_first (p f) (q f) (candidate-too known e s law at f l))

-- a law of the class that is smaller
pub smaller-found : (known : Known) (e s : ℕ) → IsLaw (length known.duals) e → candidate_slot known e ≡ Some s → (laws : List ℕ) → laws ≡ candidates known
    → (i : ℕ) → i < length laws → are_equivalent (answer_of known) e (get_or laws i 0) ≡ true → get_or laws i 0 < e → is_least (answer_of known) (length known.duals) e ≡ false
smaller-found known e s law at laws is i h on less =
    let p = are_equivalent (answer_of known) e in
    let x = get_or laws i 0 in
    let any : list_any (λ f. nat_lt f e) (filter p laws) ≡ true =
    any-filter p (λ f. nat_lt f e) laws ∙ list_any_at (λ f. p f && nat_lt f e) laws i 0 h (and_from (p x) (nat_lt x e) on (lt-ltb x e less)) in
    let same : filter p laws ≡ class_with (answer_of known) (length known.duals) e = ap (filter p) is ∙ candidate-class known e s law at in
    ap not (ap (list_any (λ f. nat_lt f e)) (sym same) ∙ any)

-- whether a candidate is equivalent, by its slot
pub candidate-bits : (known : Known) (e s : ℕ) → candidate_slot known e ≡ Some s → (laws slots : List ℕ) → AreCandidates known laws slots → (i : ℕ) → i < length laws
    → are_equivalent (answer_of known) e (get_or laws i 0) ≡ (bit known.reached s (get_or slots i 0) && bit known.reached (get_or slots i 0) s)
candidate-bits known e s at laws slots found i h =
    let q : ℕ → Bool = λ f. is_some (candidate_slot known f) in
    let f = get_or laws i 0 in
    let slot : ℕ → ℕ = λ law. unwrap_or (slot_of known.slots law) 0 in
    let all : All (λ law. q law ≡ true) laws = All-same (λ law. q law ≡ true) laws (candidates known) found.listed (filter_passes q (laws_to (length known.duals))) in
    let on : q f ≡ true = All-get_or (λ law. q law ≡ true) laws i 0 h all in
    let there : get_or slots i 0 ≡ slot f = ap (λ (xs : List ℕ). get_or xs i 0) found.same_order ∙ get_or-map slot laws i 0 0 h in
    let its : slot_of known.slots f ≡ Some (get_or slots i 0) = if-some (implies_one known f) (slot_of known.slots f) on ∙ ap Some (sym there) in
    equivalent-bits known e f s (get_or slots i 0) (if-is (implies_one known e) (slot_of known.slots e) s at) its

-- the same, by what is looked at
pub candidate-test : (known : Known) (e s : ℕ) → candidate_slot known e ≡ Some s → (laws slots : List ℕ) → AreCandidates known laws slots
    → (matrix : Bits) → matrix ≡ known.reached → (seen : List ℕ) → seen ≡ slots → (i : ℕ) → i < length laws
    → are_equivalent (answer_of known) e (get_or laws i 0) ≡ (bit matrix s (get_or seen i 0) && bit matrix (get_or seen i 0) s)
candidate-test known e s at laws slots found matrix same seen are i h =
    candidate-bits known e s at laws slots found i h
    ∙ ap (λ (xs : List ℕ). bit known.reached s (get_or xs i 0) && bit known.reached (get_or xs i 0) s) (sym are)
    ∙ ap (λ (m : Bits). bit m s (get_or seen i 0) && bit m (get_or seen i 0) s) (sym same)

-- the slot of a candidate
pub slot-number : (known : Known) (e s : ℕ) → candidate_slot known e ≡ Some s → s ≡ unwrap_or (slot_of known.slots e) 0
slot-number known e s at = ap (λ (o : Option ℕ). unwrap_or o 0) (sym (if-is (implies_one known e) (slot_of known.slots e) s at))

pub candidates-few : (known : Known) (laws : List ℕ) → laws ≡ candidates known
    → (p : ℕ → Bool) (i : ℕ) → i < length laws → length (filter p (take i laws)) < length known.duals
candidates-few known laws is p i h =
    let a = ap length is in
    let b = few_pass (λ law. is_some (candidate_slot known law)) (length known.duals) in
    let c = length-filter_both p (λ k. not (p k)) (λ k. refl) (take i laws) in
    let d = length-take-le i laws (omega (arith, h)) in
    omega (arith, a, b, c, d, h)

-- a class so far, with the next law where it is equivalent
pub class-grows : (p : ℕ → Bool) (xs : List ℕ) (i : ℕ) (old new : List ℕ) → i < length xs → old ≡ filter p (take i xs) → p (get_or xs i 0) ≡ true
    → new ≡ old ++ get_or xs i 0 ∷ [] → new ≡ filter p (take (i + 1) xs)
class-grows p xs i old new h so on e =
    e ∙ ap (λ (ys : List ℕ). ys ++ get_or xs i 0 ∷ []) so ∙ sym (rw on at (filter_more p xs i 0 h))

pub class-stays : (p : ℕ → Bool) (xs : List ℕ) (i : ℕ) (old new : List ℕ) → i < length xs → old ≡ filter p (take i xs) → p (get_or xs i 0) ≡ false
    → new ≡ old → new ≡ filter p (take (i + 1) xs)
class-stays p xs i old new h so off e = e ∙ so ∙ sym (rw (off, append-nil (filter p (take i xs))) at (filter_more p xs i 0 h))

-- no law of it is smaller
pub none-more : (e x : ℕ) (old new : List ℕ) → list_any (λ f. nat_lt f e) old ≡ false → e ≤ x → new ≡ old ++ x ∷ [] → list_any (λ f. nat_lt f e) new ≡ false
none-more e x old new none h is =
    ap (list_any (λ f. nat_lt f e)) is ∙ list_any-append (λ f. nat_lt f e) old (x ∷ []) ∙ rw (none, le-ltb x e h) refl

-- all candidates are looked at
pub class-whole : (known : Known) (e s : ℕ) → IsLaw (length known.duals) e → candidate_slot known e ≡ Some s → (laws : List ℕ) → laws ≡ candidates known
    → (i : ℕ) → length laws ≤ i → (found : List ℕ) → found ≡ filter (are_equivalent (answer_of known) e) (take i laws) → list_any (λ f. nat_lt f e) found ≡ false
    → IsClassOfLeast known e (Some found)
class-whole known e s law at laws is i h found so none =
    let p = are_equivalent (answer_of known) e in
    let whole : found ≡ class_with (answer_of known) (length known.duals) e = so ∙ ap (filter p) (take_all i laws h ∙ is) ∙ candidate-class known e s law at in
    (ap not (ap (list_any (λ f. nat_lt f e)) (sym whole) ∙ none), whole)

-- a law that is no candidate is alone in its class
pub class-alone : (known : Known) (e : ℕ) → IsLaw (length known.duals) e → candidate_slot known e ≡ None → (found : List ℕ) → found ≡ e ∷ [] → IsClassOfLeast known e (Some found)
class-alone known e law none found is =
    let n = length known.duals in
    let alone = none-alone known e law none in
    (lone-least known n e law alone, is ∙ sym (lone-class known n e law alone))
