-- The first refuting pair whose laws are found.
use Rattle.std.proofs.Common.{◌≡◌, ℕ, ◌+◌, ◌*◌, ◌<◌, ◌≤◌, Bool, true, false, List, All, Contains, Option, Some, None, IfSome, MatchOption, get_or, slice_get, length, refl, sym, ◌∙◌, subst, arith, inl, inr}
use Rattle.std.proofs.lemmas.Bool.{cases_eq, cases_order}
use Rattle.std.proofs.lemmas.List.Elements.{All-contains, Contains-get_or}
use Rattle.std.proofs.lemmas.Option.{slice_get_within}
use Rattle.std.proofs.lemmas.Grind.{get_or_default_zero}
use Rattle.etp_theory.specs.Reach.{Fact, implies, refutes}
use Rattle.etp_closure.specs.Tables.{image_of}
use Rattle.etp_chain.specs.Evidence.{GivesPair, turn_of, HasNoPairBefore, IsLeastPair, IsFirstPair}
use Rattle.etp_chain.specs.Searches.{IsFound, IsLeastFound}

-- the least law found, of the first laws of a list
pub record IsLeastUpTo (duals : List ℕ) (dual : Bool) (found laws : List ℕ) (count least : ℕ) : Type 0 where
  pub place : ℕ
  pub before : place < count
  pub within : place < length laws
  pub image : least ≡ image_of duals dual (get_or laws place 0)
  pub is_found : IsFound found least
  pub no_less : (other : ℕ) → other < count → other < length laws → IsFound found (image_of duals dual (get_or laws other 0))
      → least ≤ image_of duals dual (get_or laws other 0)

abbrev pub LeastUpTo : List ℕ → Bool → List ℕ → List ℕ → ℕ → Option ℕ → Type 0
LeastUpTo duals dual found laws count least =
    MatchOption least ((other : ℕ) → other < count → other < length laws → ¬ IsFound found (image_of duals dual (get_or laws other 0)))
    (IsLeastUpTo duals dual found laws count)

module _ (duals : List ℕ) (dual : Bool) (found laws : List ℕ) (count : ℕ) (within : count < length laws) where
  -- a law more that isn't found, or isn't below the least
  pub least_stays : (least : Option ℕ) → LeastUpTo duals dual found laws count least
      → (IsFound found (image_of duals dual (get_or laws count 0)) → IfSome least (λ other. image_of duals dual (get_or laws count 0) < other) → ⊥)
      → LeastUpTo duals dual found laws (count + 1) least
  least_stays None h not = λ other below inside is.
      elim (cases_eq other count) [
        | inl same ↦ let P : ℕ → Type 0 = λ x. IsFound found (image_of duals dual (get_or laws x 0)) in not (subst P same is) tt
        | inr apart ↦ h other (omega (arith, below, apart)) inside is
      ]
  least_stays (Some least) h not = record {
    place = h.place;
    before = omega (arith, h.before);
    within = h.within;
    image = h.image;
    is_found = h.is_found;
    no_less = λ other below inside is.
        elim (cases_eq other count) [
          | inl same ↦
              let P : ℕ → Type 0 = λ x. IsFound found (image_of duals dual (get_or laws x 0)) in
              let Q : ℕ → Type 0 = λ x. least ≤ image_of duals dual (get_or laws x 0) in
              elim (cases_order (image_of duals dual (get_or laws count 0)) least) [
                | inl equal ↦ subst Q (sym same) (omega (arith, equal))
                | inr (inl less) ↦ absurd (not (subst P same is) less)
                | inr (inr more) ↦ subst Q (sym same) (omega (arith, more))
              ]
          | inr apart ↦ h.no_less other (omega (arith, below, apart)) inside is
        ];
  }

  -- a law more that is found and below the least
  pub least_now : (least : Option ℕ) → LeastUpTo duals dual found laws count least
      → IsFound found (image_of duals dual (get_or laws count 0)) → IfSome least (λ other. image_of duals dual (get_or laws count 0) < other)
      → IsLeastUpTo duals dual found laws (count + 1) (image_of duals dual (get_or laws count 0))
  least_now None h is below = record {
    place = count;
    before = omega arith;
    within = within;
    image = refl;
    is_found = is;
    no_less = λ other under inside there.
        elim (cases_eq other count) [
          | inl same ↦ let Q : ℕ → Type 0 = λ x. image_of duals dual (get_or laws count 0) ≤ image_of duals dual (get_or laws x 0) in subst Q (sym same) (omega arith)
          | inr apart ↦ absurd (h other (omega (arith, under, apart)) inside there)
        ];
  }
  least_now (Some least) h is below = record {
    place = count;
    before = omega arith;
    within = within;
    image = refl;
    is_found = is;
    no_less = λ other under inside there.
        elim (cases_eq other count) [
          | inl same ↦ let Q : ℕ → Type 0 = λ x. image_of duals dual (get_or laws count 0) ≤ image_of duals dual (get_or laws x 0) in subst Q (sym same) (omega arith)
          | inr apart ↦ let above = h.no_less other (omega (arith, under, apart)) inside there in omega (arith, above, below)
        ];
  }

-- all laws of the list were looked at
pub least_of_all : (duals : List ℕ) (dual : Bool) (found laws : List ℕ) (count : ℕ) (least : Option ℕ) → length laws ≤ count
    → LeastUpTo duals dual found laws count least
    → MatchOption least (All (λ law. ¬ IsFound found (image_of duals dual law)) laws) (IsLeastFound duals dual found laws)
least_of_all duals dual found laws count None all h = λ k d within is.
    let P : ℕ → Type 0 = λ law. IsFound found (image_of duals dual law) in
    h k (omega (arith, within, all)) within (subst P (get_or_default_zero laws k d within) is)
least_of_all duals dual found laws count (Some least) all h = record {
  law = get_or laws h.place 0;
  law_in = Contains-get_or laws h.place 0 h.within;
  image = h.image;
  is_found = h.is_found;
  no_less = λ other in_laws is.
      let at : get_or laws in_laws.0 0 ≡ other = sym (get_or_default_zero laws in_laws.0 other in_laws.1) ∙ in_laws.2 in
      let P : ℕ → Type 0 = λ law. IsFound found (image_of duals dual law) in
      let Q : ℕ → Type 0 = λ law. least ≤ image_of duals dual law in
      subst Q at (h.no_less in_laws.0 (omega (arith, in_laws.1, all)) in_laws.1 (subst P (sym at) is));
}

-- a file has one pair of lists
same_lists : (facts : List Fact) (file : ℕ) (hs fs gs es : List ℕ) → slice_get facts file ≡ Some (refutes hs fs)
    → slice_get facts file ≡ Some (refutes gs es) → (hs ≡ gs) × (fs ≡ es)
same_lists facts file hs fs gs es p q =
    let both : Some (refutes hs fs) ≡ Some (refutes gs es) = sym p ∙ q in
    (cc both, cc both)

module _ (duals : List ℕ) (facts : List Fact) (before after : List ℕ) (file : ℕ) (dual : Bool) (hs fs : List ℕ)
    (said : slice_get facts file ≡ Some (refutes hs fs)) where
  -- what a pair of the file is
  taken : (e f : ℕ) → GivesPair duals facts file dual e f
      → (hold : ℕ) × (fail : ℕ) × Contains hs hold × Contains fs fail × (e ≡ image_of duals dual hold) × (f ≡ image_of duals dual fail)
  taken e f g =
      let same = same_lists facts file g.all_holds g.all_fails hs fs g.said said in
      let P : List ℕ → ℕ → Type 0 = Contains in
      (g.hold, g.fail, subst (λ (xs : List ℕ). P xs g.hold) same.0 g.hold_in, subst (λ (xs : List ℕ). P xs g.fail) same.1 g.fail_in, g.from, g.to)

  pub no_hold : All (λ law. ¬ IsFound before (image_of duals dual law)) hs → (e f : ℕ) → GivesPair duals facts file dual e f
      → IsFound before e → ¬ IsFound after f
  no_hold none e f g is _ =
      let t = taken e f g in
      let P : ℕ → Type 0 = IsFound before in
      All-contains (λ law. ¬ IsFound before (image_of duals dual law)) hs t.0 none t.2 (subst P t.4 is)

  pub no_fail : All (λ law. ¬ IsFound after (image_of duals dual law)) fs → (e f : ℕ) → GivesPair duals facts file dual e f
      → IsFound before e → ¬ IsFound after f
  no_fail none e f g _ is =
      let t = taken e f g in
      let P : ℕ → Type 0 = IsFound after in
      All-contains (λ law. ¬ IsFound after (image_of duals dual law)) fs t.1 none t.3 (subst P t.5 is)

  pub both_least : (hold fail : ℕ) → IsLeastFound duals dual before hs hold → IsLeastFound duals dual after fs fail
      → IsLeastPair duals facts (IsFound before) (IsFound after) file dual hold fail
  both_least hold fail h k = record {
    gives = record { all_holds = hs; all_fails = fs; said = said; hold = h.law; fail = k.law; hold_in = h.law_in; fail_in = k.law_in; from = h.image; to = k.image };
    has_hold = h.is_found;
    has_fail = k.is_found;
    least_hold = λ e f g is _.
        let t = taken e f g in
        let P : ℕ → Type 0 = IsFound before in
        omega (arith, h.no_less t.0 t.2 (subst P t.4 is), t.4);
    least_fail = λ f g is.
        let t = taken hold f g in
        let P : ℕ → Type 0 = IsFound after in
        omega (arith, k.no_less t.1 t.3 (subst P t.5 is), t.5);
  }

abbrev pub NoneAt : List ℕ → List Fact → List ℕ → List ℕ → ℕ → Bool → Type 0
NoneAt duals facts before after file dual = (e f : ℕ) → GivesPair duals facts file dual e f → IsFound before e → ¬ IsFound after f

module _ (duals : List ℕ) (facts : List Fact) (before after : List ℕ) (file : ℕ) where
  -- the file's own laws have no pair, or the duals have none either
  pub none_plain : HasNoPairBefore duals facts (IsFound before) (IsFound after) (turn_of file false) → NoneAt duals facts before after file false
      → HasNoPairBefore duals facts (IsFound before) (IsFound after) (turn_of file true)
  none_plain h none other true e f g p q = let low = h other true e f g p q in omega (arith, low)
  none_plain h none other false e f g p q =
      let low = h other false e f g p q in
      elim (cases_eq other file) [
        | inl same ↦ let P : ℕ → Type 0 = λ x. GivesPair duals facts x false e f in absurd (none e f (subst P same g) p q)
        | inr apart ↦ omega (arith, low, apart)
      ]

  pub none_dual : HasNoPairBefore duals facts (IsFound before) (IsFound after) (turn_of file true) → NoneAt duals facts before after file true
      → HasNoPairBefore duals facts (IsFound before) (IsFound after) (turn_of file true + 1)
  none_dual h none other false e f g p q = let low = h other false e f g p q in omega (arith, low)
  none_dual h none other true e f g p q =
      let low = h other true e f g p q in
      elim (cases_eq other file) [
        | inl same ↦ let P : ℕ → Type 0 = λ x. GivesPair duals facts x true e f in absurd (none e f (subst P same g) p q)
        | inr apart ↦ omega (arith, low, apart)
      ]

  -- an implication gives no pairs
  pub none_implied : (hypothesis goal : ℕ) → slice_get facts file ≡ Some (implies hypothesis goal) → (dual : Bool)
      → NoneAt duals facts before after file dual
  none_implied hypothesis goal said dual e f g _ _ =
      let both : Some (implies hypothesis goal) ≡ Some (refutes g.all_holds g.all_fails) = sym said ∙ g.said in
      absurd (cc both)

-- the end of all files
pub none_at_all : (duals : List ℕ) (facts : List Fact) (before after : List ℕ) (turn : ℕ) → 2 * length facts ≤ turn
    → HasNoPairBefore duals facts (IsFound before) (IsFound after) turn
    → (file : ℕ) (dual : Bool) (e f : ℕ) → GivesPair duals facts file dual e f → IsFound before e → ¬ IsFound after f
none_at_all duals facts before after turn all h file true e f g p q =
    let low = h file true e f g p q in
    let within = slice_get_within facts file _ g.said in
    omega (arith, low, within, all)
none_at_all duals facts before after turn all h file false e f g p q =
    let low = h file false e f g p q in
    let within = slice_get_within facts file _ g.said in
    omega (arith, low, within, all)

-- a pair for conditions that say the same
pub first_pair_for : (duals : List ℕ) (facts : List Fact) (P Q R S : ℕ → Type 0) (file : ℕ) (dual : Bool) (holds fails : ℕ)
    → ((law : ℕ) → P law → R law) → ((law : ℕ) → R law → P law) → ((law : ℕ) → Q law → S law) → ((law : ℕ) → S law → Q law)
    → IsFirstPair duals facts P Q file dual holds fails → IsFirstPair duals facts R S file dual holds fails
first_pair_for duals facts P Q R S file dual holds fails to_r to_p to_s to_q h = record {
  least = record {
    gives = h.least.gives;
    has_hold = to_r holds h.least.has_hold;
    has_fail = to_s fails h.least.has_fail;
    least_hold = λ e f g p q. h.least.least_hold e f g (to_p e p) (to_q f q);
    least_fail = λ f g q. h.least.least_fail f g (to_q f q);
  };
  earliest = λ other turned e f g p q. h.earliest other turned e f g (to_p e p) (to_q f q);
}
