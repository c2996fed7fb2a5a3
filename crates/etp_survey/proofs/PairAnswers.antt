-- Replies about pairs from the parts that give them.
use Rattle.std.proofs.Common.{◌≡◌, ℕ, List, [], ◌++◌, length, refl, sym, ◌∙◌, ap, subst, Bool, true, false}
use Rattle.std.specs.Prelude.{codes, decimal}
use Rattle.etp_theory.specs.Trees.{Equation}
use Rattle.etp_theory.specs.Reach.{Fact}
use Rattle.etp_laws.specs.Listing.{IsTheList}
use Rattle.etp_theory.specs.LawNumbers.{IsLaw}
use Rattle.etp_closure.specs.Closures.{Known, StandsFor}
use Rattle.etp_closure.specs.Answers.{answer_of, Says}
use Rattle.etp_closure.specs.declared.facts.Answer.{Answer}
use Rattle.etp_closure.specs.declared.facts.Answer.TheVariants.{Implied, Refuted, Unsettled}
use Rattle.etp_ledger.specs.Files.{facts_of}
use Rattle.etp_ledger.specs.Asking.{Means}
use Rattle.etp_ledger.specs.Refusals.{IsQuestionRefused}
use Rattle.etp_ledger.specs.declared.refusal.LedgerRefusal.TheVariants.{UnknownLaw}
use Rattle.etp_report.specs.Pairs.{pairs_answered}
use Rattle.etp_report.specs.Blocks.{answer_text}
use Rattle.etp_report.specs.declared.counts.Counts.{Counts}
use Rattle.etp_laws.specs.LawLists.{LawList}
use Rattle.etp_ledger.specs.Ledgers.{Entries, IsOver}
use Rattle.etp_print.specs.Texts.{answered, refused, reply_text}
use Rattle.etp_print.specs.Given.{Gives}
use Rattle.etp_survey.specs.PairReplies.{AskReply, unknown, known, CountsReply, pairs_with, counts_line, pair_line}

pub answers-pair : (laws : LawList) (ledger : Entries) (e f n : ℕ) (a : Answer) (old text : List ℕ) → IsOver laws ledger → IsLaw (length ledger.closure.duals) e × IsLaw (length ledger.closure.duals) f
    → Says ledger.closure.duals (facts_of ledger.files) e f a → ((list : List Equation) → IsTheList ledger.order list → Means list e f a)
    → old ≡ [] → text ≡ old ++ pair_line e f (answer_text a) → Gives n text false (AskReply laws ledger.files e f)
answers-pair laws ledger e f n a old text g l s m none t = record {
  reply = answered (pair_line e f (answer_text a));
  is = known a (subst (λ k. IsLaw k e) g.same_size l.0) (subst (λ k. IsLaw k f) g.same_size l.1) (subst (λ (d : List ℕ). Says d (facts_of ledger.files) e f a) g.same_duals s)
      (m laws.equations (subst (λ k. IsTheList k laws.equations) (sym g.same_order) g.list)) refl;
  text_is = t ∙ ap (λ (x : List ℕ). x ++ pair_line e f (answer_text a)) none;
  refused_is = refl;
}

pub answers-unknown : (laws : LawList) (ledger : Entries) (e f n number : ℕ) (text : List ℕ) (flag : Bool) → IsOver laws ledger → IsQuestionRefused (length ledger.closure.duals) e f (UnknownLaw number)
    → (text ≡ reply_text n (refused (codes "unknown law " ++ decimal number))) × (flag ≡ true) → Gives n text flag (AskReply laws ledger.files e f)
answers-unknown laws ledger e f n number text flag g q h = record {
  reply = refused (codes "unknown law " ++ decimal number);
  is = unknown number (subst (λ k. IsQuestionRefused k e f (UnknownLaw number)) g.same_size q) refl;
  text_is = h.0;
  refused_is = h.1;
}

pairs-same : (k : Known) (a : Answer) → pairs_answered k a ≡ pairs_with (answer_of k) a (length k.duals)
unfolding pairs_answered
pairs-same k a = refl

pub answers-counts : (laws : LawList) (ledger : Entries) (closure : Known) (n : ℕ) (c : Counts) (old text : List ℕ) → IsOver laws ledger → closure ≡ ledger.closure
    → c.implied ≡ pairs_answered closure Implied → c.refuted ≡ pairs_answered closure Refuted → c.unsettled ≡ pairs_answered closure Unsettled
    → ((facts : List Fact) → StandsFor closure facts → (e f : ℕ) → Says closure.duals facts e f (answer_of closure e f)) → StandsFor ledger.closure (facts_of ledger.files)
    → old ≡ [] → text ≡ old ++ counts_line c.implied c.refuted c.unsettled → Gives n text false (CountsReply laws ledger.files)
answers-counts laws ledger closure n c old text g same i r u says stands none t =
    let long : length closure.duals ≡ length laws.equations = ap (λ (k : Known). length k.duals) same ∙ g.same_size in
    let duals : closure.duals ≡ laws.duals = ap (λ (k : Known). k.duals) same ∙ g.same_duals in
    let a : c.implied ≡ pairs_with (answer_of closure) Implied (length laws.equations) = i ∙ pairs-same closure Implied ∙ ap (pairs_with (answer_of closure) Implied) long in
    let b : c.refuted ≡ pairs_with (answer_of closure) Refuted (length laws.equations) = r ∙ pairs-same closure Refuted ∙ ap (pairs_with (answer_of closure) Refuted) long in
    let d : c.unsettled ≡ pairs_with (answer_of closure) Unsettled (length laws.equations) = u ∙ pairs-same closure Unsettled ∙ ap (pairs_with (answer_of closure) Unsettled) long in
    let there : StandsFor closure (facts_of ledger.files) = subst (λ (k : Known). StandsFor k (facts_of ledger.files)) (sym same) stands in
    record {
      reply = answered (counts_line (pairs_with (answer_of closure) Implied (length laws.equations)) (pairs_with (answer_of closure) Refuted (length laws.equations)) (pairs_with (answer_of closure) Unsettled (length laws.equations)));
      is = record {
        answer_to = answer_of closure;
        says = λ e f. subst (λ (k : List ℕ). Says k (facts_of ledger.files) e f (answer_of closure e f)) duals (says (facts_of ledger.files) there e f);
        reply_is = refl;
      };
      text_is = t ∙ ap (λ (x : List ℕ). x ++ counts_line c.implied c.refuted c.unsettled) none ∙ rw (a, b, d) refl;
      refused_is = refl;
    }
