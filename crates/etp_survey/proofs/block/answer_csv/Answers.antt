use Rattle.std.proofs.Common.{◌∙◌, ap, ◌++◌, List, ℕ}
use Rattle.etp_print.proofs.GivenLemmas.{IfOk-then}
use Rattle.etp_survey.proofs.ReportAnswers.{Stands, answers-block, answers-no_block}
use Rattle.etp_survey.proofs.block.answer_csv.Goals as goal

pub returns-in_ok-append-in-Ok : goal.returns-in_ok-append-in-Ok
returns-in_ok-append-in-Ok c laws over =
    answers-block laws c.args.ledger.now c.closure.result.now (record { over = over; same = c.closure.ensures.value; stands = c.closure.ensures.stands })
    c.in-Ok.ensures.says c.args.first c.args.last c.args.line c.in-Ok.block c.args.text.now c.append.new.self c.in-Ok.ensures.block c.in-Ok.ensures.text c.requires
    (c.in_ok-append-in-Ok.ensures.ok ∙ ap (λ (x : List ℕ). c.args.text.now ++ x) c.as_slice.ensures)

pub returns-in-Err-Block : goal.returns-in-Err-Block
returns-in-Err-Block c = IfOk-then c.refuse_block.result _ _ (λ flag h laws over.
    let none = rw c.in-Err-Block.field-0-is at c.in-Err-Block.ensures.err in
    answers-no_block laws c.args.ledger.now c.closure.result.now (record { over = over; same = c.closure.ensures.value; stands = c.closure.ensures.stands })
    c.args.first c.args.last c.args.line c.refuse_block.new.text flag none.2 (rw (none.0, none.1) at h)) c.refuse_block.ensures
