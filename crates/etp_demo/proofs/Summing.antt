-- The summary from its parts.
use Rattle.std.proofs.Common.{◌≡◌, ℕ, List, [], ◌++◌, length, Bool, sym, ap, ◌∙◌, subst}
use Rattle.std.specs.Prelude.{codes}
use Rattle.etp_theory.specs.Reach.{Fact}
use Rattle.etp_laws.specs.LawLists.{LawList}
use Rattle.etp_closure.specs.Closures.{Known, StandsFor}
use Rattle.etp_closure.specs.Answers.{answer_of, Says}
use Rattle.etp_ledger.specs.Files.{File, facts_of}
use Rattle.etp_ledger.specs.Ledgers.{Entries, IsOver}
use Rattle.etp_gen.specs.Scripts.{file_name}
use Rattle.etp_report.specs.Reports.{classes_with}
use Rattle.etp_print.specs.Texts.{answered, reply_text}
use Rattle.etp_print.specs.Given.{Gives}
use Rattle.etp_survey.specs.PairReplies.{CountsReply}
use Rattle.etp_demo.specs.Demos.{HasClasses, AppendsCounts, number_line, name_line, summary_text}

-- a text that answers `counts` is its line
pub appends_counts : (laws : LawList) (files : List File) (n : ℕ) (line old new : List ℕ) (flag : Bool) → Gives n line flag (CountsReply laws files)
    → new ≡ old ++ line → AppendsCounts laws files old new
appends_counts laws files n line old new flag g e = record {
  line = line;
  counts = record {
    answer_to = g.is.answer_to;
    says = g.is.says;
    reply_is = ap answered (g.text_is ∙ ap (reply_text n) g.is.reply_is);
  };
  appended = e;
}

-- how many classes there are by a ledger's closure
pub has_classes : (laws : LawList) (ledger : Entries) (closure : Known) (number : ℕ) (classes : List (List ℕ)) → IsOver laws ledger → closure ≡ ledger.closure
    → StandsFor ledger.closure (facts_of ledger.files)
    → ((facts : List Fact) → StandsFor closure facts → (e f : ℕ) → Says closure.duals facts e f (answer_of closure e f))
    → classes ≡ classes_with (answer_of closure) (length closure.duals) → number ≡ length classes → HasClasses laws ledger.files number
has_classes laws ledger closure number classes over same stands says are many =
    let duals : closure.duals ≡ laws.duals = ap (λ (k : Known). k.duals) same ∙ over.same_duals in
    let size : length closure.duals ≡ length laws.equations = ap (λ (k : Known). length k.duals) same ∙ over.same_size in
    let there : StandsFor closure (facts_of ledger.files) = subst (λ (k : Known). StandsFor k (facts_of ledger.files)) (sym same) stands in
    record {
      answer_to = answer_of closure;
      says = λ e f. subst (λ (d : List ℕ). Says d (facts_of ledger.files) e f (answer_of closure e f)) duals (says (facts_of ledger.files) there e f);
      number_is = many ∙ ap length are ∙ ap (λ n. length (classes_with (answer_of closure) n)) size;
    }

-- the text after each of the five lines
pub record HasLines (count : ℕ) (counts counts_after : List ℕ) (classes : ℕ) (t0 t1 t2 t3 t4 t5 : List ℕ) : Type 0 where
  pub begun : t0 ≡ []
  pub first : t1 ≡ t0 ++ number_line (codes "files ") count
  pub second : t2 ≡ t1 ++ counts
  pub third : t3 ≡ t2 ++ name_line (codes "withdrawn ") (file_name 1)
  pub fourth : t4 ≡ t3 ++ counts_after
  pub fifth : t5 ≡ t4 ++ number_line (codes "classes ") classes

pub five_lines : (count : ℕ) (counts counts_after : List ℕ) (classes : ℕ) (t0 t1 t2 t3 t4 t5 : List ℕ) → HasLines count counts counts_after classes t0 t1 t2 t3 t4 t5
    → t5 ≡ summary_text count counts counts_after classes
five_lines count counts counts_after classes t0 t1 t2 t3 t4 t5 h =
    let one : List ℕ = number_line (codes "files ") count in
    let name : List ℕ = name_line (codes "withdrawn ") (file_name 1) in
    let last : List ℕ = number_line (codes "classes ") classes in
    let a : t1 ≡ one = h.first ∙ ap (λ (t : List ℕ). t ++ one) h.begun in
    let b : t2 ≡ one ++ counts = h.second ∙ ap (λ (t : List ℕ). t ++ counts) a in
    let c : t3 ≡ (one ++ counts) ++ name = h.third ∙ ap (λ (t : List ℕ). t ++ name) b in
    let d : t4 ≡ ((one ++ counts) ++ name) ++ counts_after = h.fourth ∙ ap (λ (t : List ℕ). t ++ counts_after) c in
    h.fifth ∙ ap (λ (t : List ℕ). t ++ last) d
