-- The replies about pairs of laws are one each.
use Rattle.std.proofs.Common.{◌≡◌, ℕ, zero, suc, ◌+◌, inl, inr, List, ◌++◌, length, refl, sym, ◌∙◌, ap, Bool}
use Rattle.std.specs.Prelude.{codes, decimal}
use Rattle.std.proofs.Math.Path.{fun_ext}
use Rattle.etp_theory.specs.Reach.{Fact}
use Rattle.etp_theory.specs.LawNumbers.{IsLaw}
use Rattle.etp_closure.specs.Answers.{Says}
use Rattle.etp_closure.specs.declared.facts.Answer.{Answer}
use Rattle.etp_closure.specs.declared.facts.Answer.TheVariants.{Implied, Refuted, Unsettled}
use Rattle.etp_ledger.specs.Refusals.{IsQuestionRefused}
use Rattle.etp_ledger.specs.declared.refusal.LedgerRefusal.TheVariants.{UnknownLaw}
use Rattle.etp_report.specs.Reports.{row_with, class_with, classes_with}
use Rattle.etp_report.specs.Blocks.{answer_text, block_text}
use Rattle.etp_laws.specs.LawLists.{LawList}
use Rattle.etp_ledger.specs.Files.{File, facts_of}
use Rattle.etp_print.specs.Texts.{Reply, answered, refused}
use Rattle.etp_survey.specs.PairReplies.{AskReply, unknown, known, AreAnswers, CountsReply, pairs_with, pair_line, counts_line, RowReply, no_row, row_shown, row_text, ClassReply, no_class, class_shown, class_text, ClassesReply, classes_text, CsvReply, no_block, block_shown}

-- a pair has one answer
pub Says-only : (duals : List ℕ) (facts : List Fact) (e f : ℕ) (a b : Answer) → Says duals facts e f a → Says duals facts e f b → a ≡ b
Says-only duals facts e f Implied Implied h i = refl
Says-only duals facts e f Implied Refuted h i = absurd (i.0 h)
Says-only duals facts e f Implied Unsettled h i = absurd (i.0 h)
Says-only duals facts e f Refuted Implied h i = absurd (h.0 i)
Says-only duals facts e f Refuted Refuted h i = refl
Says-only duals facts e f Refuted Unsettled h i = absurd (i.1 h.1)
Says-only duals facts e f Unsettled Implied h i = absurd (h.0 i)
Says-only duals facts e f Unsettled Refuted h i = absurd (h.1 i.1)
Says-only duals facts e f Unsettled Unsettled h i = refl

-- the number of a question that is refused is one
pub question-only : (count e f m n : ℕ) → IsQuestionRefused count e f (UnknownLaw m) → IsQuestionRefused count e f (UnknownLaw n) → m ≡ n
question-only count e f m n (inl h) (inl i) = h.0 ∙ sym i.0
question-only count e f m n (inl h) (inr i) = absurd (h.1 i.1)
question-only count e f m n (inr h) (inl i) = absurd (i.1 h.1)
question-only count e f m n (inr h) (inr i) = h.0 ∙ sym i.0

pub question-known : (count e f n : ℕ) → IsLaw count e → IsLaw count f → IsQuestionRefused count e f (UnknownLaw n) → ⊥
question-known count e f n p q (inl h) = h.1 p
question-known count e f n p q (inr h) = h.2 q

pub ask_reply-only : (laws : LawList) (files : List File) (e f : ℕ) (r s : Reply) → AskReply laws files e f r → AskReply laws files e f s → r ≡ s
ask_reply-only laws files e f r s (unknown m h x) (unknown n i y) = x ∙ ap (λ k. refused (codes "unknown law " ++ decimal k)) (question-only _ e f m n h i) ∙ sym y
ask_reply-only laws files e f r s (unknown m h x) (known b p q i k y) = absurd (question-known _ e f m p q h)
ask_reply-only laws files e f r s (known a p q h k x) (unknown n i y) = absurd (question-known _ e f n p q i)
ask_reply-only laws files e f r s (known a p q h k x) (known b p' q' i k' y) = x ∙ ap (λ c. answered (pair_line e f (answer_text c))) (Says-only _ _ e f a b h i) ∙ sym y

-- all answers by what the files say are one
answers-only : (laws : LawList) (files : List File) (p q : ℕ → ℕ → Answer) → AreAnswers laws files p → AreAnswers laws files q → p ≡ q
answers-only laws files p q h i = fun_ext (λ e. fun_ext (λ f. Says-only laws.duals (facts_of files) e f (p e f) (q e f) (h e f) (i e f)))

pub counts_reply-only : (laws : LawList) (files : List File) (r s : Reply) → CountsReply laws files r → CountsReply laws files s → r ≡ s
counts_reply-only laws files r s h i =
    let n = length laws.equations in
    h.reply_is
    ∙ ap (λ (a : ℕ → ℕ → Answer). answered (counts_line (pairs_with a Implied n) (pairs_with a Refuted n) (pairs_with a Unsettled n))) (answers-only laws files h.answer_to i.answer_to h.says i.says)
    ∙ sym i.reply_is

pub row_reply-only : (laws : LawList) (files : List File) (e : ℕ) (r s : Reply) → RowReply laws files e r → RowReply laws files e s → r ≡ s
row_reply-only laws files e r s (no_row n x) (no_row m y) = x ∙ sym y
row_reply-only laws files e r s (no_row n x) (row_shown q i l y) = absurd (n l)
row_reply-only laws files e r s (row_shown p h l x) (no_row m y) = absurd (m l)
row_reply-only laws files e r s (row_shown p h l x) (row_shown q i k y) =
    let n = length laws.equations in
    x ∙ ap (λ (a : ℕ → ℕ → Answer). answered (row_text e (row_with a n Implied e) (row_with a n Refuted e) (length (row_with a n Unsettled e)))) (answers-only laws files p q h i) ∙ sym y

pub class_reply-only : (laws : LawList) (files : List File) (e : ℕ) (r s : Reply) → ClassReply laws files e r → ClassReply laws files e s → r ≡ s
class_reply-only laws files e r s (no_class n x) (no_class m y) = x ∙ sym y
class_reply-only laws files e r s (no_class n x) (class_shown q i l y) = absurd (n l)
class_reply-only laws files e r s (class_shown p h l x) (no_class m y) = absurd (m l)
class_reply-only laws files e r s (class_shown p h l x) (class_shown q i k y) =
    x ∙ ap (λ (a : ℕ → ℕ → Answer). answered (class_text e (class_with a (length laws.equations) e))) (answers-only laws files p q h i) ∙ sym y

pub classes_reply-only : (laws : LawList) (files : List File) (r s : Reply) → ClassesReply laws files r → ClassesReply laws files s → r ≡ s
classes_reply-only laws files r s h i =
    h.reply_is
    ∙ ap (λ (a : ℕ → ℕ → Answer). answered (classes_text (classes_with a (length laws.equations)))) (answers-only laws files h.answer_to i.answer_to h.says i.says)
    ∙ sym i.reply_is

pub csv_reply-only : (laws : LawList) (files : List File) (first last : ℕ) (r s : Reply) → CsvReply laws files first last r → CsvReply laws files first last s → r ≡ s
csv_reply-only laws files first last r s (no_block n x) (no_block m y) = x ∙ sym y
csv_reply-only laws files first last r s (no_block n x) (block_shown q i b y) = absurd (n b)
csv_reply-only laws files first last r s (block_shown p h b x) (no_block m y) = absurd (m b)
csv_reply-only laws files first last r s (block_shown p h b x) (block_shown q i c y) =
    x ∙ ap (λ (a : ℕ → ℕ → Answer). answered (block_text a first last)) (answers-only laws files p q h i) ∙ sym y
