-- The reply that says why is one.
use Rattle.std.proofs.Common.{◌≡◌, ℕ, List, ◌++◌, sym, ap, subst, ◌∙◌}
use Rattle.std.specs.Prelude.{codes, decimal}
use Rattle.std.proofs.lemmas.Option.{same_Some}
use Rattle.etp_theory.specs.Trees.{Tree, Equation}
use Rattle.etp_theory.specs.FailingOverlaps.{two_forms, IsFinding}
use Rattle.etp_theory.proofs.Ends.{one_form}
use Rattle.etp_laws.specs.LawLists.{LawList}
use Rattle.etp_closure.specs.Tables.{image_of}
use Rattle.etp_closure.specs.declared.facts.Answer.{Answer}
use Rattle.etp_closure.specs.declared.facts.Answer.TheVariants.{Implied, Refuted, Unsettled}
use Rattle.etp_chain.specs.declared.evidence.Cover.{Cover}
use Rattle.etp_chain.proofs.Chains.{one_path, one_cover}
use Rattle.etp_table.proofs.Failures as Tables
use Rattle.etp_table.specs.Tables.{Table}
use Rattle.etp_table.specs.Verdicts as Verdicts
use Rattle.etp_table.specs.declared.point.Point.{Point}
use Rattle.etp_linear.specs.Failures as LinearFailures
use Rattle.etp_linear.proofs.Offences as Linears
use Rattle.etp_matrix.specs.Failures as MatrixFailures
use Rattle.etp_matrix.proofs.Offences as Matrices
use Rattle.etp_items.specs.Bodies.{FileBody, Model, table, linear, matrix, rules, proof, model}
use Rattle.etp_ledger.specs.Files.{File, facts_of}
use Rattle.etp_print.specs.Texts.{Reply, answered, refused}
use Rattle.etp_print.specs.EvidenceTexts.{table_failure, linear_failure, matrix_failure, rules_failure}
use Rattle.etp_report.specs.Blocks.{answer_text}
use Rattle.etp_survey.specs.PairReplies.{pair_line}
use Rattle.etp_survey.proofs.OneAnswer.{Says-only, question-only, question-known}
use Rattle.etp_evidence.specs.Failing.{IsTableFailure, IsRulesFailure, IsFailureLine, IsBodyFailure}
use Rattle.etp_evidence.specs.WhyReplies.{edge_lines, cover_text, IsCoverFailure, IsCoverText, IsShown, by_path, by_cover, by_none, WhyReply, unknown, known}

one_table_line : (laws : List Equation) (size : ℕ) (entries : List ℕ) (n : ℕ) (a b : List ℕ) → IsTableFailure laws size entries n a → IsTableFailure laws size entries n b → a ≡ b
one_table_line laws size entries n a b p q =
    let t : Table = record { size = size; entries = entries } in
    let law : p.law ≡ q.law = same_Some _ _ (sym p.listed ∙ q.listed) in
    let one = Tables.one_failure t q.law p.point q.point p.left p.right q.left q.right (subst (λ (e : Equation). Verdicts.IsFirstFailure t e p.point p.left p.right) law p.first) q.first in
    p.line_is ∙ ap (λ (x : Point). table_failure n x p.left p.right) one.0 ∙ ap (λ x. table_failure n q.point x p.right) one.1 ∙ ap (table_failure n q.point q.left) one.2 ∙ sym q.line_is

one_rules_line : (laws rs : List Equation) (n : ℕ) (a b : List ℕ) → IsRulesFailure laws rs n a → IsRulesFailure laws rs n b → a ≡ b
one_rules_line laws rs n a b p q =
    let law : p.found.law ≡ q.found.law = same_Some _ _ (sym p.found.listed ∙ q.found.listed) in
    let found = subst (λ (e : Equation). IsFinding rs e.left e.right (two_forms p.left_form p.right_form)) law p.found.found in
    let left : p.left_form ≡ q.left_form = one_form rs q.found.law.left p.left_form q.left_form found.0 q.found.found.0 in
    let right : p.right_form ≡ q.right_form = one_form rs q.found.law.right p.right_form q.right_form found.1 q.found.found.1 in
    p.line_is ∙ ap (λ (u : Tree). rules_failure n u p.right_form) left ∙ ap (rules_failure n q.left_form) right ∙ sym q.line_is

one_line : (laws : List Equation) (m : Model) (n : ℕ) (a b : List ℕ) → IsFailureLine laws m n a → IsFailureLine laws m n b → a ≡ b
one_line laws (table size entries) n a b p q = one_table_line laws size entries n a b p q
one_line laws (linear l) n a b (f, p, x) (g, q, y) =
    let law : p.law ≡ q.law = same_Some _ _ (sym p.listed ∙ q.listed) in
    x ∙ ap (linear_failure n) (Linears.one_failure l q.law f g (subst (λ (e : Equation). LinearFailures.IsFirstFailure l e f) law p.first) q.first) ∙ sym y
one_line laws (matrix h) n a b (f, p, x) (g, q, y) =
    let law : p.law ≡ q.law = same_Some _ _ (sym p.listed ∙ q.listed) in
    x ∙ ap (matrix_failure n h.size) (Matrices.one_failure h q.law f g (subst (λ (e : Equation). MatrixFailures.IsFirstFailure h e f) law p.first) q.first) ∙ sym y
one_line laws (rules w rs) n a b p q = one_rules_line laws rs n a b p q

one_body_line : (laws : List Equation) (body : FileBody) (n : ℕ) (a b : List ℕ) → IsBodyFailure laws body n a → IsBodyFailure laws body n b → a ≡ b
one_body_line laws (proof p) n a b x y = absurd x
one_body_line laws (model m claims) n a b x y = one_line laws m n a b x y

one_cover_line : (laws : LawList) (files : List File) (cover : Cover) (a b : List ℕ) → IsCoverFailure laws files cover a → IsCoverFailure laws files cover b → a ≡ b
one_cover_line laws files cover a b p q =
    let file : p.file ≡ q.file = same_Some _ _ (sym p.stands ∙ q.stands) in
    let n = image_of laws.duals cover.dual cover.fails in
    one_body_line laws.equations q.file.body n a b (subst (λ (x : File). IsBodyFailure laws.equations x.body n a) file p.fails) q.fails

one_text : (laws : LawList) (files : List File) (c d : Cover) (a b : List ℕ) → c ≡ d → IsCoverText laws files c a → IsCoverText laws files d b → a ≡ b
one_text laws files c d a b same (f, p, x) (g, q, y) =
    x ∙ ap (λ (k : Cover). cover_text files k f) same
    ∙ ap (cover_text files d) (one_cover_line laws files d f g (subst (λ (k : Cover). IsCoverFailure laws files k f) same p) q) ∙ sym y

one_shown : (laws : LawList) (files : List File) (e f : ℕ) (answer : Answer) (a b : List ℕ) → IsShown laws files e f answer a → IsShown laws files e f answer b → a ≡ b
one_shown laws files e f Implied a b (by_path p x i) (by_path q y j) =
    i ∙ ap (edge_lines files) (one_path laws.duals (facts_of files) f e p q x y) ∙ sym j
one_shown laws files e f Refuted a b (by_cover c x i) (by_cover d y j) = one_text laws files c d a b (one_cover laws.duals (facts_of files) e f c d x y) i j
one_shown laws files e f Unsettled a b (by_none i) (by_none j) = i ∙ sym j

pub why_reply-only : (laws : LawList) (files : List File) (e f : ℕ) (r s : Reply) → WhyReply laws files e f r → WhyReply laws files e f s → r ≡ s
why_reply-only laws files e f r s (unknown m h x) (unknown n i y) = x ∙ ap (λ k. refused (codes "unknown law " ++ decimal k)) (question-only _ e f m n h i) ∙ sym y
why_reply-only laws files e f r s (unknown m h x) (known b l p q i k w y) = absurd (question-known _ e f m p q h)
why_reply-only laws files e f r s (known a l p q h k v x) (unknown n i y) = absurd (question-known _ e f n p q i)
why_reply-only laws files e f r s (known a l p q h k v x) (known b m p' q' i k' w y) = go (Says-only _ _ e f a b h i)
  where
    go : a ≡ b → r ≡ s
    go same =
        x ∙ ap (λ c. answered (pair_line e f (answer_text c) ++ l)) same
        ∙ ap (λ (t : List ℕ). answered (pair_line e f (answer_text b) ++ t)) (one_shown laws files e f b l m (subst (λ c. IsShown laws files e f c l) same v) w) ∙ sym y
