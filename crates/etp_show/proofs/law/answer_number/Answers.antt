use Rattle.std.proofs.Common.{◌≡◌, ℕ, refl}
use Rattle.etp_term.specs.Laws.{equation_of}
use Rattle.etp_text.specs.declared.refusal.TextRefusal.TheVariants.{Syntax, Variable, TooLarge, NoMemory}
use Rattle.etp_show.specs.LawReplies.{unread, read}
use Rattle.etp_print.proofs.GivenLemmas.{IfOk-then, gives-refused, gives-other}
use Rattle.etp_show.proofs.law.answer_number.Goals as goal

no_syntax : (at : ℕ) → Syntax at ≡ NoMemory → ⊥
no_syntax at e = cc

no_variable : (at : ℕ) → Variable at ≡ NoMemory → ⊥
no_variable at e = cc

no_leaves : (count : ℕ) → TooLarge count ≡ NoMemory → ⊥
no_leaves count e = cc

pub returns-in-Ok : goal.returns-in-Ok
returns-in-Ok c = IfOk-then c.answer_numbered.result _ _ (λ flag h. gives-other c.args.line c.answer_numbered.new.text flag _ _
    (λ r i. read (equation_of c.in-Ok.law) c.in-Ok.ensures.spelled c.in-Ok.ensures.left c.in-Ok.ensures.right i) h) c.answer_numbered.ensures

pub returns-in-Err-Syntax : goal.returns-in-Err-Syntax
returns-in-Err-Syntax c = IfOk-then c.refuse_with.result _ _ (λ flag h. gives-refused c.args.line c.refuse_with.new.text _ flag _
    (unread (Syntax c.in-Err-Syntax.at) (rw c.in-Err-Syntax.field-0-is at c.in-Err-Syntax.ensures.refused) (no_syntax c.in-Err-Syntax.at) refl) h) c.refuse_with.ensures

pub returns-in-Err-Variable : goal.returns-in-Err-Variable
returns-in-Err-Variable c = IfOk-then c.refuse_with-in-Err-Variable.result _ _ (λ flag h. gives-refused c.args.line c.refuse_with-in-Err-Variable.new.text _ flag _
    (unread (Variable c.in-Err-Variable.at) (rw c.in-Err-Variable.field-0-is at c.in-Err-Variable.ensures.refused) (no_variable c.in-Err-Variable.at) refl) h) c.refuse_with-in-Err-Variable.ensures

pub returns-in-Err-TooLarge : goal.returns-in-Err-TooLarge
returns-in-Err-TooLarge c = IfOk-then c.refuse_with-in-Err-TooLarge.result _ _ (λ flag h. gives-refused c.args.line c.refuse_with-in-Err-TooLarge.new.text _ flag _
    (unread (TooLarge c.in-Err-TooLarge.leaves) (rw c.in-Err-TooLarge.field-0-is at c.in-Err-TooLarge.ensures.refused) (no_leaves c.in-Err-TooLarge.leaves) refl) h) c.refuse_with-in-Err-TooLarge.ensures
