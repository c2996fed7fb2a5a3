-- The reply from what is written.
use Rattle.std.proofs.Common.{◌≡◌, ℕ, List, [], ◌∷◌, ◌++◌, Bool, true, false, length, slice_get, Option, Some, inl, inr, refl, sym, ap, subst, ◌∙◌, append_assoc}
use Rattle.std.specs.Prelude.{codes, decimal, OnOk, Ok, Err, Result}
use Rattle.etp_theory.specs.Trees.{Equation}
use Rattle.etp_theory.specs.LawNumbers.{IsLaw}
use Rattle.etp_laws.specs.Listing.{IsTheList}
use Rattle.etp_laws.specs.LawLists.{LawList}
use Rattle.etp_closure.specs.Tables.{image_of}
use Rattle.etp_closure.specs.Answers.{Says}
use Rattle.etp_closure.specs.declared.facts.Answer.{Answer}
use Rattle.etp_chain.specs.declared.evidence.Cover.{Cover}
use Rattle.etp_ledger.specs.Files.{File, facts_of}
use Rattle.etp_ledger.specs.Asking.{Means}
use Rattle.etp_ledger.specs.Ledgers.{Entries, IsOver}
use Rattle.etp_ledger.specs.Refusals.{IsQuestionRefused, IsWhyRefused}
use Rattle.etp_ledger.specs.declared.refusal.LedgerRefusal.TheVariants.{UnknownLaw}
use Rattle.etp_print.specs.Texts.{answered, refused, reply_text}
use Rattle.etp_print.specs.EvidenceTexts.{cover_line}
use Rattle.etp_print.specs.Given.{Gives}
use Rattle.etp_report.specs.Blocks.{answer_text}
use Rattle.etp_survey.specs.PairReplies.{pair_line}
use Rattle.etp_evidence.specs.Failing.{Appends, IsBodyFailure}
use Rattle.etp_evidence.specs.WhyReplies.{name_of, edge_lines, cover_text, IsCoverText, IsShown, WhyReply, known, unknown}

pub OnOk-then : {A E : Type 0} (r : Result A E) (P Q : Type 0) → (P → Q) → OnOk r P → OnOk r Q
OnOk-then (Ok x) P Q f h = f h
OnOk-then (Err e) P Q f h = tt

pub answers-why : (laws : LawList) (ledger : Entries) (e f n : ℕ) (a : Answer) (old mid new : List ℕ) → IsOver laws ledger
    → IsLaw (length ledger.closure.duals) e × IsLaw (length ledger.closure.duals) f
    → Says ledger.closure.duals (facts_of ledger.files) e f a → ((list : List Equation) → IsTheList ledger.order list → Means list e f a)
    → old ≡ [] → mid ≡ old ++ pair_line e f (answer_text a) → Appends mid new (IsShown laws ledger.files e f a)
    → Gives n new false (WhyReply laws ledger.files e f)
answers-why laws ledger e f n a old mid new g l s m none first shown = record {
  reply = answered (pair_line e f (answer_text a) ++ shown.line);
  is = known a shown.line (subst (λ k. IsLaw k e) g.same_size l.0) (subst (λ k. IsLaw k f) g.same_size l.1) (subst (λ (d : List ℕ). Says d (facts_of ledger.files) e f a) g.same_duals s)
      (m laws.equations (subst (λ k. IsTheList k laws.equations) (sym g.same_order) g.list)) shown.is refl;
  text_is = shown.appended ∙ ap (λ (t : List ℕ). t ++ shown.line) (first ∙ ap (λ (t : List ℕ). t ++ pair_line e f (answer_text a)) none);
  refused_is = refl;
}

pub answers-unknown : (laws : LawList) (ledger : Entries) (e f n number : ℕ) (text : List ℕ) (flag : Bool) → IsOver laws ledger → IsWhyRefused (length ledger.closure.duals) e f (UnknownLaw number)
    → (text ≡ reply_text n (refused (codes "unknown law " ++ decimal number))) × (flag ≡ true) → Gives n text flag (WhyReply laws ledger.files e f)
answers-unknown laws ledger e f n number text flag g (inl q) h = absurd (cc)
answers-unknown laws ledger e f n number text flag g (inr q) h = record {
  reply = refused (codes "unknown law " ++ decimal number);
  is = unknown number (subst (λ k. IsQuestionRefused k e f (UnknownLaw number)) g.same_size q) refl;
  text_is = h.0;
  refused_is = h.1;
}

-- six texts, one behind the other
joined : (old c f b a : List ℕ) → (((((old ++ c) ++ 10 ∷ []) ++ f) ++ 10 ∷ []) ++ b) ++ a ≡ old ++ (c ++ 10 ∷ (f ++ 10 ∷ (b ++ a)))
joined old c f b a =
    append_assoc ((((old ++ c) ++ 10 ∷ []) ++ f) ++ 10 ∷ []) b a ∙ append_assoc (((old ++ c) ++ 10 ∷ []) ++ f) (10 ∷ []) (b ++ a)
    ∙ append_assoc ((old ++ c) ++ 10 ∷ []) f (10 ∷ (b ++ a)) ∙ append_assoc (old ++ c) (10 ∷ []) (f ++ 10 ∷ (b ++ a))
    ∙ append_assoc old c (10 ∷ (f ++ 10 ∷ (b ++ a)))

pub cover-shown : (laws : LawList) (files : List File) (cover : Cover) (file : File) (number : ℕ) (old t1 t2 t3 t4 t5 new : List ℕ)
    → slice_get files cover.file ≡ Some file → number ≡ image_of laws.duals cover.dual cover.fails → t1 ≡ old ++ cover_line cover file.name → t2 ≡ t1 ++ 10 ∷ []
    → Appends t2 t3 (IsBodyFailure laws.equations file.body number) → t4 ≡ t3 ++ 10 ∷ [] → t5 ≡ t4 ++ edge_lines files cover.before → new ≡ t5 ++ edge_lines files cover.after
    → Appends old new (IsCoverText laws files cover)
cover-shown laws files cover file number old t1 t2 t3 t4 t5 new stands is a b failure c d e =
    let name = file.name in
    let before = edge_lines files cover.before in
    let after = edge_lines files cover.after in
    let fails : IsBodyFailure laws.equations file.body (image_of laws.duals cover.dual cover.fails) failure.line = subst (λ n. IsBodyFailure laws.equations file.body n failure.line) is failure.is in
    let three : t3 ≡ ((old ++ cover_line cover name) ++ 10 ∷ []) ++ failure.line = failure.appended ∙ ap (λ (t : List ℕ). t ++ failure.line) (b ∙ ap (λ (t : List ℕ). t ++ 10 ∷ []) a) in
    let five : t5 ≡ ((((old ++ cover_line cover name) ++ 10 ∷ []) ++ failure.line) ++ 10 ∷ []) ++ before = d ∙ ap (λ (t : List ℕ). t ++ before) (c ∙ ap (λ (t : List ℕ). t ++ 10 ∷ []) three) in
    record {
      line = cover_text files cover failure.line;
      is = (failure.line, record { file = file; stands = stands; fails = fails }, refl);
      appended =
          e ∙ ap (λ (t : List ℕ). t ++ after) five ∙ joined old (cover_line cover name) failure.line before after
          ∙ ap (λ (o : Option File). old ++ (cover_line cover (name_of o) ++ 10 ∷ (failure.line ++ 10 ∷ (before ++ after)))) (sym stands);
    }
