-- What a ledger keeps makes its answers right.
use Rattle.std.proofs.Common.{◌≡◌, ◌≢◌, ℕ, zero, suc, ◌<◌, ◌≤◌, ◌⊎◌, inl, inr, List, [], ◌∷◌, ◌++◌, true, false, cond, All, Contains, Some, None, IsTrue, length, get_or, sym, ap, subst, ◌∙◌, arith, length-append}
use Rattle.std.proofs.lemmas.Option.{slice_get-get_or, slice_get_within}
use Rattle.etp_theory.specs.Trees.{Equation, law_dual}
use Rattle.etp_theory.specs.Sameness.{Same}
use Rattle.etp_theory.specs.Reach.{Fact}
use Rattle.etp_theory.specs.LawNumbers.{IsLaw, law_numbered, dual_number}
use Rattle.etp_theory.specs.RightFacts.{AreRightFacts}
use Rattle.etp_theory.proofs.Theorems.{reach_theorems}
use Rattle.etp_laws.specs.Listing.{reflexive_law, IsTheList}
use Rattle.etp_laws.specs.LawLists.{LawList, AreDuals}
use Rattle.etp_laws.specs.Enumeration.{laws_upto}
use Rattle.etp_laws.proofs.TheList.{laws_upto_is}
use Rattle.etp_laws.proofs.Blocks.{laws_upto_4, laws_upto_5}
use Rattle.etp_laws.proofs.Unique.{IsTheList-is, IsTheList-unique}
use Rattle.etp_closure.specs.Closures.{Known, StandsFor, HasKeptLaws, is_reached, is_covered}
use Rattle.etp_closure.specs.Answers.{Says}
use Rattle.etp_closure.specs.declared.facts.Answer.{Answer}
use Rattle.etp_closure.specs.declared.facts.Answer.TheVariants.{Implied, Refuted, Unsettled}
use Rattle.etp_items.specs.Bodies.{FileBody}
use Rattle.etp_proof.specs.Names.{IsName}
use Rattle.etp_check.specs.Checks.{fact_said, hypothesis_of, cites_of, IsListedBody, AreCitedNumbers, IsValidBody, HasLaws}
use Rattle.etp_check.specs.Refusals.{IsBodyOffence, IsCheckRefused}
use Rattle.etp_check.specs.declared.refusal.CheckRefusal.{CheckRefusal}
use Rattle.etp_check.specs.declared.refusal.CheckRefusal.TheVariants as Checked
use Rattle.etp_check.proofs.Rights.{listed_fact}
use Rattle.etp_ledger.specs.Files.{File, facts_of, is_named, body_named, goal_in, cited_goals, StandsAsProof}
use Rattle.etp_ledger.specs.Accepting.{IsAccepted, AreAccepted}
use Rattle.etp_ledger.specs.Withdrawing.{Cites, without}
use Rattle.etp_ledger.specs.Asking.{Means, ClosureMeans}
use Rattle.etp_ledger.specs.Refusals.{IsFileRefused}
use Rattle.etp_ledger.specs.declared.refusal.LedgerRefusal.{LedgerRefusal}
use Rattle.etp_ledger.specs.declared.refusal.LedgerRefusal.TheVariants.{Check, NoMemory}
use Rattle.etp_ledger.specs.Ledgers.{Entries, IsLedger}
use Rattle.etp_ledger.proofs.Lists.{map_long}
use Rattle.etp_ledger.proofs.Accepted.{facts_right, accepted_more, goals_listed}
use Rattle.etp_ledger.proofs.Ends.{end_listed, covered_listed}
use Rattle.etp_ledger.proofs.Withdrawn.{withdrawn_accepted, without_stood}

-- what a ledger keeps, by what callers see of it
pub seen : (inside value : Entries) → inside ≡ value → IsLedger inside.order inside.files inside.closure → IsLedger value.order value.files value.closure
seen inside value e l = subst (λ (v : Entries). IsLedger v.order v.files v.closure) e l

same_law : (p q : Equation) → Some p ≡ Some q → p ≡ q
same_law p q e = cc

module _ (laws : List Equation) (duals : List ℕ) (are : AreDuals laws duals) where
  dual_numbered : (n : ℕ) (p : Equation) → law_numbered laws n ≡ Some p → (q : Equation) × (law_numbered laws (dual_number duals n) ≡ Some q) × Same (law_dual p) q
  dual_numbered zero p h = cc
  dual_numbered (suc k) p h =
      let within : suc k ≤ length laws = omega (arith, slice_get_within laws k p h) in
      let d = are.each (suc k) (omega arith) within in
      let same = same_law d.law p (sym d.stands ∙ h) in
      (d.number.entry, d.number.stands, subst (λ (e : Equation). Same (law_dual e) d.number.entry) same d.number.same)

  pub listed : (e : ℕ) → IsLaw (length duals) e → (p : Equation) × (law_numbered laws e ≡ Some p)
  listed zero is = absurd (omega (arith, is.from_one))
  listed (suc k) is = (get_or laws k reflexive_law, slice_get-get_or laws k reflexive_law (omega (arith, is.to_last, are.long)))

module _ (order : ℕ) (files : List File) (closure : Known) (l : IsLedger order files closure) (laws : List Equation) (list : IsTheList order laws) where
  pub right_facts : AreRightFacts laws closure.duals (facts_of files)
  right_facts = record {
    dual_numbers = dual_numbered laws closure.duals (l.duals laws list);
    each = facts_right laws files (l.accepted laws list);
  }

  not_both : (e f : ℕ) → IsTrue (is_reached closure e f) → IsTrue (is_covered closure e f) → ⊥
  not_both e f r c = reach_theorems.never_both laws closure.duals (facts_of files) right_facts e f ((l.stands.reached e f).0 r) ((l.stands.covered e f).0 c)

  pub means : (e f : ℕ) → IsLaw (length closure.duals) e → IsLaw (length closure.duals) f → (a : Answer) → Says closure.duals (facts_of files) e f a → Means laws e f a
  means e f he hf Implied says =
      let p = listed laws closure.duals (l.duals laws list) e he in
      let q = listed laws closure.duals (l.duals laws list) f hf in
      record { hypothesis = p.0; goal = q.0; hypothesis_listed = p.1; goal_listed = q.1; derived = reach_theorems.derived laws closure.duals (facts_of files) right_facts e f p.0 q.0 p.1 q.1 says }
  means e f he hf Refuted says =
      let p = listed laws closure.duals (l.duals laws list) e he in
      let q = listed laws closure.duals (l.duals laws list) f hf in
      record { holding = p.0; failing = q.0; holding_listed = p.1; failing_listed = q.1; apart = reach_theorems.apart laws closure.duals (facts_of files) right_facts e f p.0 q.0 p.1 q.1 says.1 }
  means e f he hf Unsettled says = tt

pub closure_means : (order : ℕ) (files : List File) (closure : Known) → IsLedger order files closure → ClosureMeans order closure
closure_means order files closure l = record {
  reached = λ laws e f list is r.
      let right = right_facts order files closure l laws list in
      let path = (l.stands.reached e f).0 r in
      let p = listed laws closure.duals (l.duals laws list) e (subst (λ n. IsLaw n e) (sym (l.duals laws list).long) is) in
      let q = end_listed laws closure.duals (facts_of files) right path p in
      record { hypothesis = p.0; goal = q.0; hypothesis_listed = p.1; goal_listed = q.1; derived = reach_theorems.derived laws closure.duals (facts_of files) right e f p.0 q.0 p.1 q.1 path };
  covered = λ laws e f list v.
      let right = right_facts order files closure l laws list in
      let cover = (l.stands.covered e f).0 v in
      let ends = covered_listed laws closure.duals (facts_of files) right cover in
      record { holding = ends.0.0; failing = ends.1.0; holding_listed = ends.0.1; failing_listed = ends.1.1; apart = reach_theorems.apart laws closure.duals (facts_of files) right e f ends.0.0 ends.1.0 ends.0.1 ends.1.1 cover };
  never_both = λ e f r v. not_both order files closure l (laws_upto order) (laws_upto_is order) e f r v;
}

-- lists of as many laws are of one order
lengths_differ : length (laws_upto 4) ≡ length (laws_upto 5) → ⊥
lengths_differ e = omega (arith, e, laws_upto_4, laws_upto_5)

one_order : (k o : ℕ) → (k ≡ 4) ⊎ (k ≡ 5) → (o ≡ 4) ⊎ (o ≡ 5) → length (laws_upto k) ≡ length (laws_upto o) → k ≡ o
one_order k o (inl a) (inl b) e = a ∙ sym b
one_order k o (inr a) (inr b) e = a ∙ sym b
one_order k o (inl a) (inr b) e = absurd (lengths_differ (ap (λ n. length (laws_upto n)) (sym a) ∙ e ∙ ap (λ n. length (laws_upto n)) b))
one_order k o (inr a) (inl b) e = absurd (lengths_differ (ap (λ n. length (laws_upto n)) (sym b) ∙ sym e ∙ ap (λ n. length (laws_upto n)) a))

pub same_order : (order : ℕ) (files : List File) (closure : Known) → IsLedger order files closure → (k : ℕ) (laws : List Equation) → (k ≡ 4) ⊎ (k ≡ 5) → IsTheList k laws → length laws ≡ length closure.duals → k ≡ order
same_order order files closure l k laws known list long =
    one_order k order known l.order_known (ap length (sym (IsTheList-is k laws list)) ∙ long ∙ (l.duals (laws_upto order) (laws_upto_is order)).long)

-- a ledger takes a file
module _ (order : ℕ) (files : List File) (closure : Known) (l : IsLedger order files closure) (k : ℕ) (laws : List Equation) (known : (k ≡ 4) ⊎ (k ≡ 5)) (list : IsTheList k laws) (long : length laws ≡ length closure.duals) where
  own_list : IsTheList order laws
  own_list = subst (λ n. IsTheList n laws) (same_order order files closure l k laws known list long) list

  pub cited_numbers : (body : FileBody) (cited : List ℕ) → All (StandsAsProof files (hypothesis_of body)) (cites_of body) → cited ≡ cited_goals files body → AreCitedNumbers laws body cited
  cited_numbers body cited stand e = subst (AreCitedNumbers laws body) (sym e) (record {
    as_many = map_long (λ name. goal_in (body_named name files)) (cites_of body);
    cited_listed = goals_listed laws files body (l.accepted laws own_list) stand;
  })

  pub fact_laws : (body : FileBody) → IsListedBody laws body → HasLaws (length closure.duals) (fact_said body)
  fact_laws body listed = subst (λ n. HasLaws n (fact_said body)) long (listed_fact laws body listed)

  pub one_more : (name : List ℕ) (body : FileBody) (new_files : List File) (new_closure : Known) → IsAccepted laws files name body → length files < 4294967295 → new_files ≡ files ++ record { name = name; body = body } ∷ [] → new_closure.duals ≡ closure.duals → StandsFor new_closure (facts_of new_files) → IsLedger order new_files new_closure
  one_more name body new_files new_closure one few e duals stands = record {
    order_known = l.order_known;
    few = omega (arith, few, ap length e, length-append files (record { name = name; body = body } ∷ []));
    stands = stands;
    duals = λ other is. subst (AreDuals other) (sym duals) (l.duals other is);
    accepted = λ other is.
        let same = IsTheList-unique order laws other own_list is in
        subst (AreAccepted other) (sym e) (accepted_more other [] files (record { name = name; body = body }) (l.accepted other is) (subst (λ (es : List Equation). IsAccepted es files name body) same one));
  }

-- what the check of a body says of a file whose name is free and whose cites stand
module _ (l : LawList) (files : List File) (name : List ℕ) (body : FileBody) (cited : List ℕ) (free : body_named name files ≡ None) (stand : All (StandsAsProof files (hypothesis_of body)) (cites_of body)) (goals : cited ≡ cited_goals files body) where
  pub accepted_by : IsName name → IsValidBody l.equations body cited → IsAccepted l.equations files name body
  accepted_by spelled valid = record { spelled = spelled; free = free; valid = record { cited = stand; valid = subst (IsValidBody l.equations body) goals valid } }

  pub refused_by : (x : CheckRefusal) (r : LedgerRefusal) → IsCheckRefused l body cited x → ((r ≡ NoMemory) × (x ≡ Checked.NoMemory)) ⊎ ((r ≡ Check x) × (x ≢ Checked.NoMemory)) → IsFileRefused l files name body r
  refused_by x r why (inl of) = subst (IsFileRefused l files name body) (sym of.0) tt
  refused_by x r (inl none) (inr of) = absurd (of.1 none)
  refused_by x r (inr offence) (inr of) = subst (IsFileRefused l files name body) (sym of.0) (free, stand, subst (λ (c : List ℕ). IsBodyOffence l body c x) goals offence)

-- a ledger gives a file back
module _ (order : ℕ) (files : List File) (closure : Known) (l : IsLedger order files closure) (name : List ℕ) where
  shorter : (fs : List File) → length (without name fs) ≤ length fs
  shorter [] = omega arith
  shorter (file ∷ fs) = elim (is_named name file) as (λ b. length (cond b fs (file ∷ without name fs)) ≤ suc (length fs)) [ true ↦ omega arith | false ↦ omega (arith, shorter fs) ]

  pub kept_still : (new_files : List File) (slots : List ℕ) → new_files ≡ without name files → slots ≡ closure.slots → (fact : Fact) → Contains (facts_of new_files) fact → HasKeptLaws slots fact
  kept_still new_files slots e same fact there =
      subst (λ (ss : List ℕ). HasKeptLaws ss fact) (sym same) (l.stands.kept fact (without_stood name files fact (subst (λ (fs : List File). Contains (facts_of fs) fact) e there)))

  pub one_less : (new_files : List File) (new_closure : Known) → All (λ file. ¬ Cites name file) files → new_files ≡ without name files → new_closure.duals ≡ closure.duals → StandsFor new_closure (facts_of new_files) → IsLedger order new_files new_closure
  one_less new_files new_closure uncited e duals stands = record {
    order_known = l.order_known;
    few = omega (arith, l.few, ap length e, shorter files);
    stands = stands;
    duals = λ other is. subst (AreDuals other) (sym duals) (l.duals other is);
    accepted = λ other is. subst (AreAccepted other) (sym e) (withdrawn_accepted other name files uncited (l.accepted other is));
  }
