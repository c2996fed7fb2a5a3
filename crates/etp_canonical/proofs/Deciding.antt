-- Listed laws are judged right or have a first offence.
use Rattle.std.proofs.Common.{◌≡◌, ℕ, suc, ◌⊎◌, inl, inr, All, List, [], ◌∷◌, true, false, Option, Some, None, take, slice_get, refl, sym, ap, ◌∙◌, subst, subst₂}
use Rattle.std.specs.Prelude.{IsSome, is_some}
use Rattle.std.proofs.lemmas.List.Elements.{All-nil, All-cons, All-head, All-tail}
use Rattle.etp_theory.specs.Trees.{Tree, Equation}
use Rattle.etp_theory.specs.LawNumbers.{law_numbered}
use Rattle.etp_theory.specs.Forms.{IsFormOf, HaveOneForm}
use Rattle.etp_theory.specs.FailingOverlaps.{Finding, two_forms, term_limit, step_limit, IsFinding}
use Rattle.etp_theory.proofs.Ends.{looked_at}
use Rattle.etp_term.specs.Terms.{tree_of}
use Rattle.etp_pairs.proofs.Terms.{term_of, stands_for}
use Rattle.etp_canonical.specs.Judgements.{LawHolds, LawFails, IsJudged, IsFoundOf, IsWhyNotHolding, IsWhyNotFailing, IsFirstOffence, in_holds, in_fails}
use Rattle.etp_canonical.specs.declared.refusal.ClaimRefusal.{ClaimRefusal}
use Rattle.etp_canonical.specs.declared.refusal.ClaimRefusal.TheVariants.{HoldsFails, FailsHolds, TermLimit, StepLimit}

-- the first number of a list that isn't as it is to be, and why
record First (P : ℕ → Type 0) (Q : ℕ → ClaimRefusal → Type 0) (xs : List ℕ) : Type 0 where
  place : ℕ
  number : ℕ
  refusal : ClaimRefusal
  stands : slice_get xs place ≡ Some number
  before : All P (take place xs)
  why : Q number refusal

module _ (L P : ℕ → Type 0) (Q : ℕ → ClaimRefusal → Type 0) (decide : (n : ℕ) → L n → P n ⊎ ((r : ClaimRefusal) × Q n r)) where
  all_or_first : (xs : List ℕ) → All L xs → All P xs ⊎ First P Q xs
  all_or_first [] all = inl (All-nil P)
  all_or_first (x ∷ xs) all = go (decide x (All-head L x xs all)) (all_or_first xs (All-tail L x xs all))
    where
      go : P x ⊎ ((r : ClaimRefusal) × Q x r) → All P xs ⊎ First P Q xs → All P (x ∷ xs) ⊎ First P Q (x ∷ xs)
      go (inr q) rest = inr (record { place = 0; number = x; refusal = q.0; stands = refl; before = All-nil P; why = q.1 })
      go (inl p) (inl a) = inl (All-cons P x xs p a)
      go (inl p) (inr f) = inr (record {
        place = suc f.place;
        number = f.number;
        refusal = f.refusal;
        stands = f.stands;
        before = All-cons P x (take f.place xs) p f.before;
        why = f.why;
      })

module _ (laws rules : List Equation) where
  abbrev Listed : ℕ → Type 0
  Listed n = IsSome (law_numbered laws n)

  law_of : (n : ℕ) → Listed n → (o : Option Equation) → law_numbered laws n ≡ o → (e : Equation) × (law_numbered laws n ≡ Some e)
  law_of n h None is = absurd (let q : true ≡ false = sym h ∙ ap is_some is in cc)
  law_of n h (Some e) is = (e, is)

  module _ (n : ℕ) where
    found_two : (law : Equation) → law_numbered laws n ≡ Some law → (u v : Tree) → IsFinding rules law.left law.right (two_forms u v) → IsFoundOf laws rules n (two_forms (tree_of (term_of u)) (tree_of (term_of v)))
    found_two law listed u v h = record { law = law; listed = listed; found = subst₂ (λ x y. IsFinding rules law.left law.right (two_forms x y)) (sym (stands_for u)) (sym (stands_for v)) h }

    holds_or_not : (law : Equation) → law_numbered laws n ≡ Some law → HaveOneForm rules law.left law.right ⊎ ((f : Finding) × IsFinding rules law.left law.right f) → LawHolds laws rules n ⊎ ((r : ClaimRefusal) × IsWhyNotHolding laws rules n r)
    holds_or_not law listed (inl h) = inl (record { law = law; listed = listed; holds = h })
    holds_or_not law listed (inr (two_forms u v, h)) = inr (HoldsFails n (term_of u) (term_of v), (refl, found_two law listed u v h))
    holds_or_not law listed (inr (term_limit, h)) = inr (TermLimit n, (refl, record { law = law; listed = listed; found = h }))
    holds_or_not law listed (inr (step_limit, h)) = inr (StepLimit n, (refl, record { law = law; listed = listed; found = h }))

    fails_or_not : (law : Equation) → law_numbered laws n ≡ Some law → HaveOneForm rules law.left law.right ⊎ ((f : Finding) × IsFinding rules law.left law.right f) → LawFails laws rules n ⊎ ((r : ClaimRefusal) × IsWhyNotFailing laws rules n r)
    fails_or_not law listed (inl h) = inr (
      FailsHolds n (term_of h.form),
      (
        refl,
        record {
          law = law;
          listed = listed;
          of_left = subst (IsFormOf rules law.left) (sym (stands_for h.form)) h.of_left;
          of_right = subst (IsFormOf rules law.right) (sym (stands_for h.form)) h.of_right;
        },
      ),
    )
    fails_or_not law listed (inr (two_forms u v, h)) = inl (record { left_form = u; right_form = v; found = record { law = law; listed = listed; found = h } })
    fails_or_not law listed (inr (term_limit, h)) = inr (TermLimit n, (refl, record { law = law; listed = listed; found = h }))
    fails_or_not law listed (inr (step_limit, h)) = inr (StepLimit n, (refl, record { law = law; listed = listed; found = h }))

  decide_holds : (n : ℕ) → Listed n → LawHolds laws rules n ⊎ ((r : ClaimRefusal) × IsWhyNotHolding laws rules n r)
  decide_holds n h = let law = law_of n h (law_numbered laws n) refl in holds_or_not n law.0 law.1 (looked_at rules law.0.left law.0.right)

  decide_fails : (n : ℕ) → Listed n → LawFails laws rules n ⊎ ((r : ClaimRefusal) × IsWhyNotFailing laws rules n r)
  decide_fails n h = let law = law_of n h (law_numbered laws n) refl in fails_or_not n law.0 law.1 (looked_at rules law.0.left law.0.right)

  pub judged_or_not : (holds fails : List ℕ) → All Listed holds → All Listed fails → IsJudged laws rules holds fails ⊎ ((r : ClaimRefusal) × IsFirstOffence laws rules holds fails r)
  judged_or_not holds fails h k = go
      (all_or_first Listed (LawHolds laws rules) (IsWhyNotHolding laws rules) decide_holds holds h)
      (all_or_first Listed (LawFails laws rules) (IsWhyNotFailing laws rules) decide_fails fails k)
    where
      go : All (LawHolds laws rules) holds ⊎ First (LawHolds laws rules) (IsWhyNotHolding laws rules) holds → All (LawFails laws rules) fails ⊎ First (LawFails laws rules) (IsWhyNotFailing laws rules) fails → IsJudged laws rules holds fails ⊎ ((r : ClaimRefusal) × IsFirstOffence laws rules holds fails r)
      go (inr f) rest = inr (f.refusal, in_holds (record { place = f.place; number = f.number; stands = f.stands; before = f.before; why = f.why }))
      go (inl all) (inr f) = inr (f.refusal, in_fails all (record { place = f.place; number = f.number; stands = f.stands; before = f.before; why = f.why }))
      go (inl all) (inl every) = inl (record { holding = all; failing = every })
