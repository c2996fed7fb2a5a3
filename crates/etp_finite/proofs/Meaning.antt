-- What a finite ledger keeps makes its answers right.
use Rattle.std.proofs.Common.{◌≡◌, ℕ, zero, suc, ◌<◌, ◌≤◌, ◌⊎◌, inl, inr, List, [], ◌∷◌, ◌++◌, true, false, cond, Contains, Some, None, IsTrue, length, get_or, sym, ap, subst, ◌∙◌, arith, length-append}
use Rattle.std.proofs.lemmas.Option.{slice_get-get_or, slice_get_within}
use Rattle.etp_theory.specs.Trees.{Equation, law_dual}
use Rattle.etp_theory.specs.Sameness.{Same}
use Rattle.etp_theory.specs.Reach.{Fact}
use Rattle.etp_theory.specs.LawNumbers.{IsLaw, law_numbered, dual_number}
use Rattle.etp_laws.specs.Listing.{reflexive_law, IsTheList}
use Rattle.etp_laws.specs.LawLists.{AreDuals}
use Rattle.etp_laws.specs.Enumeration.{laws_upto}
use Rattle.etp_laws.proofs.TheList.{laws_upto_is}
use Rattle.etp_laws.proofs.Unique.{IsTheList-unique}
use Rattle.etp_closure.specs.Closures.{Known, StandsFor, HasKeptLaws, is_reached, is_covered}
use Rattle.etp_closure.specs.Answers.{Says}
use Rattle.etp_closure.specs.declared.facts.Answer.{Answer}
use Rattle.etp_closure.specs.declared.facts.Answer.TheVariants.{Implied, Refuted, Unsettled}
use Rattle.etp_cancel.specs.FiniteFacts.{AreRightFiniteFacts}
use Rattle.etp_cancel.proofs.FiniteReach as Reaching
use Rattle.etp_finite_body.specs.FiniteBodies.{FiniteFileBody}
use Rattle.etp_finite_check.specs.FiniteChecks.{fact_said, IsListedBody}
use Rattle.etp_finite.specs.Naming.{HasLaws}
use Rattle.etp_laws.specs.LawLists.{LawList}
use Rattle.etp_finite_check.specs.FiniteRefusals.{IsCheckRefused}
use Rattle.etp_finite_check.specs.declared.refusal.FiniteRefusal.{FiniteRefusal}
use Rattle.etp_finite.specs.Refusals.{IsFileRefused}
use Rattle.etp_finite.specs.Files.{File, facts_of, is_named, body_named}
use Rattle.etp_finite.specs.Accepting.{IsAccepted, AreAccepted}
use Rattle.etp_finite.specs.Withdrawing.{without}
use Rattle.etp_finite.specs.Asking.{Means, ClosureMeans}
use Rattle.etp_finite.specs.Ledgers.{Entries, IsLedger}
use Rattle.etp_finite.proofs.Accepted.{facts_right, accepted_more, listed_fact}
use Rattle.etp_finite.proofs.Ends.{end_listed, covered_listed}
use Rattle.etp_finite.proofs.Withdrawn.{withdrawn_accepted, without_stood}

-- what a ledger keeps, by what callers see of it
pub seen : (inside value : Entries) → inside ≡ value → IsLedger inside.files inside.closure → IsLedger value.files value.closure
seen inside value e l = subst (λ (v : Entries). IsLedger v.files v.closure) e l

same_law : (p q : Equation) → Some p ≡ Some q → p ≡ q
same_law p q e = cc

module _ (laws : List Equation) (duals : List ℕ) (are : AreDuals laws duals) where
  dual_numbered : (n : ℕ) (p : Equation) → law_numbered laws n ≡ Some p → (q : Equation) × (law_numbered laws (dual_number duals n) ≡ Some q) × Same (law_dual p) q
  dual_numbered zero p h = cc
  dual_numbered (suc k) p h =
      let within : suc k ≤ length laws = omega (arith, slice_get_within laws k p h) in
      let d = are.each (suc k) (omega arith) within in
      let same = same_law d.law p (sym d.stands ∙ h) in
      (d.number.entry, d.number.stands, subst (λ (e : Equation). Same (law_dual e) d.number.entry) same d.number.same)

  pub listed : (e : ℕ) → IsLaw (length duals) e → (p : Equation) × (law_numbered laws e ≡ Some p)
  listed zero is = absurd (omega (arith, is.from_one))
  listed (suc k) is = (get_or laws k reflexive_law, slice_get-get_or laws k reflexive_law (omega (arith, is.to_last, are.long)))

module _ (files : List File) (closure : Known) (l : IsLedger files closure) (laws : List Equation) (list : IsTheList 4 laws) where
  pub right_facts : AreRightFiniteFacts laws closure.duals (facts_of files)
  right_facts = record {
    dual_numbers = dual_numbered laws closure.duals (l.duals laws list);
    each = facts_right laws files (l.accepted laws list);
  }

  not_both : (e f : ℕ) → IsTrue (is_reached closure e f) → IsTrue (is_covered closure e f) → ⊥
  not_both e f r c = Reaching.never_both laws closure.duals (facts_of files) right_facts ((l.stands.reached e f).0 r) ((l.stands.covered e f).0 c)

  pub means : (e f : ℕ) → IsLaw (length closure.duals) e → IsLaw (length closure.duals) f → (a : Answer) → Says closure.duals (facts_of files) e f a → Means laws e f a
  means e f he hf Implied says =
      let p = listed laws closure.duals (l.duals laws list) e he in
      let q = listed laws closure.duals (l.duals laws list) f hf in
      record { hypothesis = p.0; goal = q.0; hypothesis_listed = p.1; goal_listed = q.1; implied = Reaching.reached laws closure.duals (facts_of files) right_facts says p.0 q.0 p.1 q.1 }
  means e f he hf Refuted says =
      let p = listed laws closure.duals (l.duals laws list) e he in
      let q = listed laws closure.duals (l.duals laws list) f hf in
      record { holding = p.0; failing = q.0; holding_listed = p.1; failing_listed = q.1; apart = Reaching.covered laws closure.duals (facts_of files) right_facts says.1 p.0 q.0 p.1 q.1 }
  means e f he hf Unsettled says = tt

pub closure_means : (files : List File) (closure : Known) → IsLedger files closure → ClosureMeans closure
closure_means files closure l = record {
  reached = λ laws e f list is r.
      let right = right_facts files closure l laws list in
      let path = (l.stands.reached e f).0 r in
      let p = listed laws closure.duals (l.duals laws list) e (subst (λ n. IsLaw n e) (sym (l.duals laws list).long) is) in
      let q = end_listed laws closure.duals (facts_of files) right path p in
      record { hypothesis = p.0; goal = q.0; hypothesis_listed = p.1; goal_listed = q.1; implied = Reaching.reached laws closure.duals (facts_of files) right path p.0 q.0 p.1 q.1 };
  covered = λ laws e f list v.
      let right = right_facts files closure l laws list in
      let cover = (l.stands.covered e f).0 v in
      let ends = covered_listed laws closure.duals (facts_of files) right cover in
      record { holding = ends.0.0; failing = ends.1.0; holding_listed = ends.0.1; failing_listed = ends.1.1; apart = Reaching.covered laws closure.duals (facts_of files) right cover ends.0.0 ends.1.0 ends.0.1 ends.1.1 };
  never_both = λ e f r v. not_both files closure l (laws_upto 4) (laws_upto_is 4) e f r v;
}

-- a ledger takes a file
module _ (files : List File) (closure : Known) (l : IsLedger files closure) (laws : List Equation) (list : IsTheList 4 laws) where
  pub fact_laws : (body : FiniteFileBody) → IsListedBody laws body → HasLaws (length closure.duals) (fact_said body)
  fact_laws body listed = subst (λ n. HasLaws n (fact_said body)) (sym (l.duals laws list).long) (listed_fact laws body listed)

  pub one_more : (name : List ℕ) (body : FiniteFileBody) (new_files : List File) (new_closure : Known) → IsAccepted laws files name body → length files < 4294967295 → new_files ≡ files ++ record { name = name; body = body } ∷ [] → new_closure.duals ≡ closure.duals → StandsFor new_closure (facts_of new_files) → IsLedger new_files new_closure
  one_more name body new_files new_closure one few e duals stands = record {
    few = omega (arith, few, ap length e, length-append files (record { name = name; body = body } ∷ []));
    stands = stands;
    duals = λ other is. subst (AreDuals other) (sym duals) (l.duals other is);
    accepted = λ other is.
        let same = IsTheList-unique 4 laws other list is in
        subst (AreAccepted other) (sym e) (accepted_more other [] files (record { name = name; body = body }) (l.accepted other is) (subst (λ (es : List Equation). IsAccepted es files name body) same one));
  }

-- what the check of a body says of a file whose name is free
pub refused_by : (l : LawList) (files : List File) (name : List ℕ) (body : FiniteFileBody) (r : FiniteRefusal) → body_named name files ≡ None → IsCheckRefused l body r → IsFileRefused l files name body r
refused_by l files name body r free (inl none) = inr (inl none)
refused_by l files name body r free (inr offence) = inr (inr (free, offence))

-- a ledger gives a file back
module _ (files : List File) (closure : Known) (l : IsLedger files closure) (name : List ℕ) where
  shorter : (fs : List File) → length (without name fs) ≤ length fs
  shorter [] = omega arith
  shorter (file ∷ fs) = elim (is_named name file) as (λ b. length (cond b fs (file ∷ without name fs)) ≤ suc (length fs)) [ true ↦ omega arith | false ↦ omega (arith, shorter fs) ]

  pub kept_still : (new_files : List File) (slots : List ℕ) → new_files ≡ without name files → slots ≡ closure.slots → (fact : Fact) → Contains (facts_of new_files) fact → HasKeptLaws slots fact
  kept_still new_files slots e same fact there =
      subst (λ (ss : List ℕ). HasKeptLaws ss fact) (sym same) (l.stands.kept fact (without_stood name files fact (subst (λ (fs : List File). Contains (facts_of fs) fact) e there)))

  pub one_less : (new_files : List File) (new_closure : Known) → new_files ≡ without name files → new_closure.duals ≡ closure.duals → StandsFor new_closure (facts_of new_files) → IsLedger new_files new_closure
  one_less new_files new_closure e duals stands = record {
    few = omega (arith, l.few, ap length e, shorter files);
    stands = stands;
    duals = λ other is. subst (AreDuals other) (sym duals) (l.duals other is);
    accepted = λ other is. subst (AreAccepted other) (sym e) (withdrawn_accepted other name files (l.accepted other is));
  }
