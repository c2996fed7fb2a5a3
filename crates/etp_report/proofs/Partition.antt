-- Each law is in one class.
use Rattle.std.proofs.Common.{◌≡◌, ℕ, zero, suc, ◌+◌, ◌-◌, ◌<◌, ◌≤◌, ◌&&◌, not, nat_eq, nat_lt, Bool, true, refl, sym, ◌∙◌, ap, subst, arith, inl, inr, List, length, get_or, Option, Some, None, slice_get, Contains}
use Rattle.std.specs.Prelude.{filter}
use Rattle.std.specs.Option.{option_map}
use Rattle.std.specs.List.{list_any}
use Rattle.std.specs.List.Sorted.{IsStrictlyIncreasing}
use Rattle.std.proofs.lemmas.Bool.{cases_Bool, cases_order, eqb-true, eq-eqb, ltb-true, lt-ltb, both_ways, not-true, and_parts, and_from}
use Rattle.std.proofs.lemmas.Option.{same_Some, slice_get-map, slice_get-get_or, slice_get_within, get_or_from_slice_get}
use Rattle.std.proofs.lemmas.List.Elements.{All-contains, All-filter, All-contains_itself, filter_passes}
use Rattle.std.proofs.lemmas.List.Folds.{list_any_at, Any-from_list_any}
use Rattle.std.proofs.lemmas.List.FromFn.{length-range_with_len, get_or-range_with_len}
use Rattle.std.proofs.lemmas.List.Kept.{AllPairs-from_increasing, IsStrictlyIncreasing-filter}
use Rattle.etp_theory.specs.LawNumbers.{IsLaw}
use Rattle.etp_theory.specs.Reach.{Fact, Reach, itself, along}
use Rattle.etp_closure.specs.Closures.{Known, StandsFor, is_reached}
use Rattle.etp_closure.specs.Answers.{answer_of}
use Rattle.etp_closure.specs.declared.facts.Answer.{Answer}
use Rattle.etp_closure.specs.declared.facts.Answer.TheVariants.{Implied}
use Rattle.etp_report.specs.Pairs.{is_same}
use Rattle.etp_report.specs.Reports.{laws_to, are_equivalent, class_with, is_least, classes_with, IsInOne}
use Rattle.etp_report.proofs.Lists.{all-laws, any-filter}
use Rattle.etp_report.proofs.Classing.{equivalent-reached}

law_in : (n f : ℕ) → Contains (laws_to n) f → IsLaw n f
law_in n f c = All-contains (IsLaw n) (laws_to n) f (all-laws n) c

in_laws : (n f : ℕ) → IsLaw n f → Contains (laws_to n) f
in_laws n f l =
    let a = l.from_one in
    let b = l.to_last in
    let at : 1 + (f - 1) ≡ f = omega arith in
    (f - 1, omega (arith, length-range_with_len 1 n, a, b), get_or-range_with_len 1 n (f - 1) f (omega arith) ∙ at)

-- a filter keeps what passes
keeps : (p : ℕ → Bool) (xs : List ℕ) (x : ℕ) → Contains xs x → p x ≡ true → Contains (filter p xs) x
keeps p xs x c on =
    let any : list_any (λ y. p y && nat_eq x y) xs ≡ true =
    list_any_at (λ y. p y && nat_eq x y) xs c.0 x c.1 (ap (λ y. p y && nat_eq x y) c.2 ∙ and_from (p x) (nat_eq x x) on (eq-eqb x x refl)) in
    let found = Any-from_list_any (nat_eq x) (filter p xs) (any-filter p (nat_eq x) xs ∙ any) in
    (found.0, found.2, subst (λ y. get_or (filter p xs) found.0 y ≡ y) (sym (eqb-true x found.1 found.4)) found.3)

passes : (p : ℕ → Bool) (n x : ℕ) → Contains (filter p (laws_to n)) x → IsLaw n x × (p x ≡ true)
passes p n x c =
    let kept = All-filter p (Contains (laws_to n)) (laws_to n) (All-contains_itself (laws_to n)) in (
      law_in n x (All-contains (Contains (laws_to n)) (filter p (laws_to n)) x kept c),
      All-contains (λ y. p y ≡ true) (filter p (laws_to n)) x (filter_passes p (laws_to n)) c,
    )

rising : (n : ℕ) → IsStrictlyIncreasing (laws_to n)
rising n k h =
    let long = length-range_with_len 1 n in
    let a = get_or-range_with_len 1 n k 0 (omega (arith, long, h)) in
    let b = get_or-range_with_len 1 n (k + 1) 0 (omega (arith, long, h)) in
    omega (arith, a, b)

-- a number has one place in a rising list
one_place : (xs : List ℕ) → IsStrictlyIncreasing xs → (i j x : ℕ) → i < length xs → j < length xs → get_or xs i x ≡ x → get_or xs j x ≡ x → i ≡ j
one_place xs up i j x h k a b =
    let pairs = AllPairs-from_increasing xs up in
    elim (cases_order i j) [
      | inl same ↦ same
      | inr (inl below) ↦ absurd (omega (arith, pairs i j x below k, a, b))
      | inr (inr above) ↦ absurd (omega (arith, pairs j i x above h, a, b))
    ]

at_head : {A : Type 0} (v : ℕ → A) (o : Option ℕ) (a : A) → option_map v o ≡ Some a → (p : ℕ) × (o ≡ Some p) × (v p ≡ a)
at_head v None a e = absurd (cc)
at_head v (Some p) a e = (p, refl, same_Some (v p) a e)

module _ (answer_to : ℕ → ℕ → Answer) (n : ℕ) (own : (e : ℕ) → are_equivalent answer_to e e ≡ true)
    (onward : (e f g : ℕ) → are_equivalent answer_to e f ≡ true → are_equivalent answer_to f g ≡ true → are_equivalent answer_to e g ≡ true) where
  back : (e f : ℕ) → are_equivalent answer_to e f ≡ true → are_equivalent answer_to f e ≡ true
  back e f on =
      let parts = and_parts (is_same (answer_to e f) Implied) (is_same (answer_to f e) Implied) on in
      and_from (is_same (answer_to f e) Implied) (is_same (answer_to e f) Implied) parts.1 parts.0

  not_smaller : (e f : ℕ) → IsLaw n f → are_equivalent answer_to e f ≡ true → is_least answer_to n e ≡ true → f < e → ⊥
  not_smaller e f l on least below =
      let c = keeps (are_equivalent answer_to e) (laws_to n) f (in_laws n f l) on in
      let any = list_any_at (λ g. nat_lt g e) (class_with answer_to n e) c.0 f c.1 (ap (λ g. nat_lt g e) c.2 ∙ lt-ltb f e below) in
      both_ways (list_any (λ g. nat_lt g e) (class_with answer_to n e)) (not-true (list_any (λ g. nat_lt g e) (class_with answer_to n e)) least) any

  one_least : (e f : ℕ) → IsLaw n e → IsLaw n f → are_equivalent answer_to e f ≡ true → is_least answer_to n e ≡ true → is_least answer_to n f ≡ true → e ≡ f
  one_least e f l k on least least' = elim (cases_order e f) [
    | inl same ↦ same
    | inr (inl below) ↦ absurd (not_smaller f e l (back e f on) least' below)
    | inr (inr above) ↦ absurd (not_smaller e f k on least above)
  ]

  -- the least law of a class
  least_of : (k f : ℕ) → f ≤ k → IsLaw n f → (m : ℕ) × IsLaw n m × (are_equivalent answer_to f m ≡ true) × (is_least answer_to n m ≡ true)
  least_of zero f h l = absurd (let a = l.from_one in omega arith)
  least_of (suc k) f h l = elim (cases_Bool (list_any (λ g. nat_lt g f) (class_with answer_to n f))) [
    | inr none ↦ (f, l, own f, ap not none)
    | inl some ↦
        let found = Any-from_list_any (λ g. nat_lt g f) (class_with answer_to n f) some in
        let below : found.1 < f = ltb-true found.1 f found.4 in
        let member = passes (are_equivalent answer_to f) n found.1 (found.0, found.2, found.3) in
        let rest = least_of k found.1 (omega (arith, below, h)) member.0 in
        (rest.0, rest.1, onward f found.1 rest.0 member.1 rest.2, rest.3)
  ]

  pub in_one : (f : ℕ) → IsLaw n f → IsInOne (classes_with answer_to n) f
  in_one f l =
      let classes = class_with answer_to n in
      let heads = filter (is_least answer_to n) (laws_to n) in
      let up = IsStrictlyIncreasing-filter (is_least answer_to n) (laws_to n) (rising n) in
      let least = least_of f f (omega arith) l in
      let m = least.0 in
      let head = keeps (is_least answer_to n) (laws_to n) m (in_laws n m least.1) least.3 in
      record {
        place = head.0;
        own = classes m;
        there = slice_get-map classes heads head.0 ∙ ap (option_map classes) (slice_get-get_or heads head.0 m head.1 ∙ ap Some head.2);
        within = keeps (are_equivalent answer_to m) (laws_to n) f (in_laws n f l) (back f m least.2);
        only = λ other list at c.
            let found = at_head classes (slice_get heads other) list (sym (slice_get-map classes heads other) ∙ at) in
            let p = found.0 in
            let h = slice_get_within heads other p found.1 in
            let there = get_or_from_slice_get heads other p p found.1 in
            let its = passes (is_least answer_to n) n p (other, h, there) in
            let member = passes (are_equivalent answer_to p) n f (subst (λ (xs : List ℕ). Contains xs f) (sym found.2) c) in
            let same : p ≡ m = one_least p m its.0 least.1 (onward p f m member.1 least.2) its.1 least.3 in
            one_place heads up other head.0 m h head.1 (subst (λ k. get_or heads other k ≡ k) same there) head.2;
      }

reach_onward : {duals : List ℕ} {facts : List Fact} {x y z : ℕ} → Reach duals facts x y → Reach duals facts y z → Reach duals facts x z
reach_onward (itself e) k = k
reach_onward (along edge rest) k = along edge (reach_onward rest k)

-- over facts for which the closure stands each law is in one of its classes
pub each_in_one : (known : Known) (facts : List Fact) → StandsFor known facts → (f : ℕ) → IsLaw (length known.duals) f → IsInOne (classes_with (answer_of known) (length known.duals)) f
each_in_one known facts stands =
    let both : (e f : ℕ) → are_equivalent (answer_of known) e f ≡ true → (is_reached known e f ≡ true) × (is_reached known f e ≡ true) =
    (λ e f on. and_parts (is_reached known e f) (is_reached known f e) (sym (equivalent-reached known e f) ∙ on)) in
    let from : (e f : ℕ) → is_reached known e f ≡ true → is_reached known f e ≡ true → are_equivalent (answer_of known) e f ≡ true =
    (λ e f on on'. equivalent-reached known e f ∙ and_from (is_reached known e f) (is_reached known f e) on on') in
    let self : (e : ℕ) → is_reached known e e ≡ true = (λ e. (stands.reached e e).1 (itself e)) in
    let onward : (e f g : ℕ) → is_reached known e f ≡ true → is_reached known f g ≡ true → is_reached known e g ≡ true =
    (λ e f g a b. (stands.reached e g).1 (reach_onward ((stands.reached e f).0 a) ((stands.reached f g).0 b))) in
    in_one (answer_of known) (length known.duals) (λ e. from e e (self e) (self e))
    (λ e f g a b. let x = both e f a in let y = both f g b in from e g (onward e f g x.0 y.0) (onward g f e y.1 x.1))
