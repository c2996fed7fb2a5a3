-- What is found of a law is one thing, and what is judged is right.
use Rattle.std.proofs.Common.{◌≡◌, ℕ, ◌∙◌, sym, subst, List, Some}
use Rattle.std.proofs.lemmas.List.Elements.{All-contains}
use Rattle.std.proofs.lemmas.Option.{same_Some}
use Rattle.etp_theory.specs.Trees.{Tree, Equation}
use Rattle.etp_theory.specs.LawNumbers.{law_numbered}
use Rattle.etp_theory.specs.Reach.{refutes}
use Rattle.etp_theory.specs.RightFacts.{IsRightFact}
use Rattle.etp_theory.specs.Weights.{Weight}
use Rattle.etp_theory.specs.Overlaps.{IsConvergent}
use Rattle.etp_theory.specs.Forms.{IsFormOf}
use Rattle.etp_theory.specs.FailingOverlaps.{Finding, two_forms, term_limit, step_limit, IsFinding}
use Rattle.etp_theory.proofs.Convergent.{refuted_within}
use Rattle.etp_theory.proofs.Ends.{one_form, not_both, one_finding}
use Rattle.etp_term.specs.Terms.{tree_of}
use Rattle.etp_term.specs.declared.term.Term.{Term}
use Rattle.etp_pairs.specs.Judging as Terms
use Rattle.etp_pairs.specs.declared.judging.Judged.{Judged}
use Rattle.etp_pairs.specs.declared.judging.Judged.TheVariants as Verdict
use Rattle.etp_pairs.proofs.Terms.{one_term}
use Rattle.etp_canonical.specs.Judgements.{LawHolds, LawFails, IsFoundOf, IsFormOfBoth, IsJudged, IsWhyNotHolding, IsWhyNotFailing}
use Rattle.etp_canonical.specs.Looking.{IsLawJudged}
use Rattle.etp_canonical.specs.declared.refusal.ClaimRefusal.{ClaimRefusal}
use Rattle.etp_canonical.specs.declared.refusal.ClaimRefusal.TheVariants.{HoldsFails, FailsHolds, TermLimit, StepLimit, NoMemory}

-- no law of `fails` is derived from a law of `holds`
pub right_fact : (laws rules : List Equation) (w : Weight) (holds fails : List ℕ) → IsJudged laws rules holds fails → IsConvergent w rules → IsRightFact laws (refutes holds fails)
right_fact laws rules w holds fails judged convergent e f i j =
    let h = All-contains (LawHolds laws rules) holds e judged.holding i in
    let k = All-contains (LawFails laws rules) fails f judged.failing j in
    record {
      holding = h.law;
      failing = k.found.law;
      holding_listed = h.listed;
      failing_listed = k.found.listed;
      apart = λ d. refuted_within w rules convergent h.law k.found.law h.holds k.left_form k.right_form k.found.found.0 k.found.found.1 k.found.found.2 d;
    }

module _ (laws rules : List Equation) (n : ℕ) where
  pub judged_law : (law : Equation) → law_numbered laws n ≡ Some law → (j : Judged) → Terms.IsJudged rules law.left law.right j → IsLawJudged laws rules n j
  judged_law law listed (Verdict.OneForm u) h = record { law = law; listed = listed; of_left = h.0; of_right = h.1 }
  judged_law law listed (Verdict.TwoForms u v) h = record { law = law; listed = listed; found = h }
  judged_law law listed Verdict.TermLimit h = record { law = law; listed = listed; found = h }
  judged_law law listed Verdict.StepLimit h = record { law = law; listed = listed; found = h }

  pub form_holds : (u : Tree) → IsFormOfBoth laws rules n u → LawHolds laws rules n
  form_holds u h = record { law = h.law; listed = h.listed; holds = record { form = u; of_left = h.of_left; of_right = h.of_right } }

  pub holds_by : (j : Judged) (u : Term) → j ≡ Verdict.OneForm u → IsLawJudged laws rules n j → LawHolds laws rules n
  holds_by j u is h = form_holds (tree_of u) (subst (IsLawJudged laws rules n) is h)

  pub fails_by : (j : Judged) (u v : Term) → j ≡ Verdict.TwoForms u v → IsLawJudged laws rules n j → LawFails laws rules n
  fails_by j u v is h = record { left_form = tree_of u; right_form = tree_of v; found = subst (IsLawJudged laws rules n) is h }

  -- a number has one law

  one_law : (p q : Equation) → law_numbered laws n ≡ Some p → law_numbered laws n ≡ Some q → p ≡ q
  one_law p q h k = same_Some p q (sym h ∙ k)

  one_form_of : (u v : Tree) → IsFormOfBoth laws rules n u → IsFormOfBoth laws rules n v → u ≡ v
  one_form_of u v h k =
      let same = one_law h.law k.law h.listed k.listed in
      one_form rules k.law.left u v (subst (λ (e : Equation). IsFormOf rules e.left u) same h.of_left) k.of_left

  found_there : (p : Equation) (f : Finding) → law_numbered laws n ≡ Some p → IsFoundOf laws rules n f → IsFinding rules p.left p.right f
  found_there p f listed h = subst (λ (e : Equation). IsFinding rules e.left e.right f) (one_law h.law p h.listed listed) h.found

  held_or_found : (f : Finding) → LawHolds laws rules n → IsFoundOf laws rules n f → ⊥
  held_or_found f h k = not_both rules h.law.left h.law.right f h.holds (found_there h.law f h.listed k)

  one_found : (f g : Finding) → IsFoundOf laws rules n f → IsFoundOf laws rules n g → f ≡ g
  one_found f g h k = one_finding rules k.law.left k.law.right f g (found_there k.law f k.listed h) k.found

  differ : (f g : Finding) → (f ≡ g → ⊥) → IsFoundOf laws rules n f → IsFoundOf laws rules n g → ⊥
  differ f g other h k = other (one_found f g h k)

  form_or_found : (u : Tree) (f : Finding) → IsFormOfBoth laws rules n u → IsFoundOf laws rules n f → ⊥
  form_or_found u f h k = held_or_found f (form_holds u h) k

  -- a law that is as it is to be isn't refused

  pub held_or_not : (r : ClaimRefusal) → LawHolds laws rules n → IsWhyNotHolding laws rules n r → ⊥
  held_or_not (HoldsFails l u v) h k = held_or_found (two_forms (tree_of u) (tree_of v)) h k.1
  held_or_not (FailsHolds l u) h k = k
  held_or_not (TermLimit l) h k = held_or_found term_limit h k.1
  held_or_not (StepLimit l) h k = held_or_found step_limit h k.1
  held_or_not NoMemory h k = k

  pub failed_or_not : (r : ClaimRefusal) → LawFails laws rules n → IsWhyNotFailing laws rules n r → ⊥
  failed_or_not (HoldsFails l u v) h k = k
  failed_or_not (FailsHolds l u) h k = form_or_found (tree_of u) (two_forms h.left_form h.right_form) k.1 h.found
  failed_or_not (TermLimit l) h k = differ (two_forms h.left_form h.right_form) term_limit (λ e. absurd (cc)) h.found k.1
  failed_or_not (StepLimit l) h k = differ (two_forms h.left_form h.right_form) step_limit (λ e. absurd (cc)) h.found k.1
  failed_or_not NoMemory h k = k

  -- one that isn't is refused in one way

  pub one_why_holding : (r s : ClaimRefusal) → IsWhyNotHolding laws rules n r → IsWhyNotHolding laws rules n s → r ≡ s
  one_why_holding (HoldsFails l u v) (HoldsFails m x y) h k =
      let numbers : l ≡ m = h.0 ∙ sym k.0 in
      let forms : two_forms (tree_of u) (tree_of v) ≡ two_forms (tree_of x) (tree_of y) = one_found _ _ h.1 k.1 in
      let lefts : tree_of u ≡ tree_of x = cc in
      let rights : tree_of v ≡ tree_of y = cc in
      let left_terms : u ≡ x = one_term u x lefts in
      let right_terms : v ≡ y = one_term v y rights in
      λ i. HoldsFails (numbers i) (left_terms i) (right_terms i)
  one_why_holding (HoldsFails l u v) (FailsHolds m x) h k = absurd k
  one_why_holding (HoldsFails l u v) (TermLimit m) h k = absurd (differ (two_forms (tree_of u) (tree_of v)) term_limit (λ e. absurd (cc)) h.1 k.1)
  one_why_holding (HoldsFails l u v) (StepLimit m) h k = absurd (differ (two_forms (tree_of u) (tree_of v)) step_limit (λ e. absurd (cc)) h.1 k.1)
  one_why_holding (HoldsFails l u v) NoMemory h k = absurd k
  one_why_holding (FailsHolds l u) s h k = absurd h
  one_why_holding (TermLimit l) (HoldsFails m x y) h k = absurd (differ term_limit (two_forms (tree_of x) (tree_of y)) (λ e. absurd (cc)) h.1 k.1)
  one_why_holding (TermLimit l) (FailsHolds m x) h k = absurd k
  one_why_holding (TermLimit l) (TermLimit m) h k = let numbers : l ≡ m = h.0 ∙ sym k.0 in λ i. TermLimit (numbers i)
  one_why_holding (TermLimit l) (StepLimit m) h k = absurd (differ term_limit step_limit (λ e. absurd (cc)) h.1 k.1)
  one_why_holding (TermLimit l) NoMemory h k = absurd k
  one_why_holding (StepLimit l) (HoldsFails m x y) h k = absurd (differ step_limit (two_forms (tree_of x) (tree_of y)) (λ e. absurd (cc)) h.1 k.1)
  one_why_holding (StepLimit l) (FailsHolds m x) h k = absurd k
  one_why_holding (StepLimit l) (TermLimit m) h k = absurd (differ step_limit term_limit (λ e. absurd (cc)) h.1 k.1)
  one_why_holding (StepLimit l) (StepLimit m) h k = let numbers : l ≡ m = h.0 ∙ sym k.0 in λ i. StepLimit (numbers i)
  one_why_holding (StepLimit l) NoMemory h k = absurd k
  one_why_holding NoMemory s h k = absurd h

  pub one_why_failing : (r s : ClaimRefusal) → IsWhyNotFailing laws rules n r → IsWhyNotFailing laws rules n s → r ≡ s
  one_why_failing (HoldsFails l u v) s h k = absurd h
  one_why_failing (FailsHolds l u) (HoldsFails m x y) h k = absurd k
  one_why_failing (FailsHolds l u) (FailsHolds m x) h k =
      let numbers : l ≡ m = h.0 ∙ sym k.0 in
      let terms : u ≡ x = one_term u x (one_form_of (tree_of u) (tree_of x) h.1 k.1) in
      λ i. FailsHolds (numbers i) (terms i)
  one_why_failing (FailsHolds l u) (TermLimit m) h k = absurd (form_or_found (tree_of u) term_limit h.1 k.1)
  one_why_failing (FailsHolds l u) (StepLimit m) h k = absurd (form_or_found (tree_of u) step_limit h.1 k.1)
  one_why_failing (FailsHolds l u) NoMemory h k = absurd k
  one_why_failing (TermLimit l) (HoldsFails m x y) h k = absurd k
  one_why_failing (TermLimit l) (FailsHolds m x) h k = absurd (form_or_found (tree_of x) term_limit k.1 h.1)
  one_why_failing (TermLimit l) (TermLimit m) h k = let numbers : l ≡ m = h.0 ∙ sym k.0 in λ i. TermLimit (numbers i)
  one_why_failing (TermLimit l) (StepLimit m) h k = absurd (differ term_limit step_limit (λ e. absurd (cc)) h.1 k.1)
  one_why_failing (TermLimit l) NoMemory h k = absurd k
  one_why_failing (StepLimit l) (HoldsFails m x y) h k = absurd k
  one_why_failing (StepLimit l) (FailsHolds m x) h k = absurd (form_or_found (tree_of x) step_limit k.1 h.1)
  one_why_failing (StepLimit l) (TermLimit m) h k = absurd (differ step_limit term_limit (λ e. absurd (cc)) h.1 k.1)
  one_why_failing (StepLimit l) (StepLimit m) h k = let numbers : l ≡ m = h.0 ∙ sym k.0 in λ i. StepLimit (numbers i)
  one_why_failing (StepLimit l) NoMemory h k = absurd k
  one_why_failing NoMemory s h k = absurd h
