use Rattle.std.proofs.Common.{◌≡◌, ◌+◌, arith, ap, length}
use Rattle.etp_closure.specs.Answers.{answer_of}
use Rattle.etp_print.proofs.GivenLemmas.{IfOk-then}
use Rattle.etp_report.proofs.Lists.{row_lengths}
use Rattle.etp_survey.proofs.ReportAnswers.{Stands, answers-row, answers-no_row, listed, unlisted}
use Rattle.etp_survey.proofs.row.answer_row.Goals as goal

pub returns-then-not-is_law : goal.returns-then-not-is_law
returns-then-not-is_law c = IfOk-then c.refuse_with.result _ _ (λ flag h laws over.
    answers-no_row laws c.args.ledger.now c.closure-closure.result.now (record { over = over; same = c.closure-closure.ensures.value; stands = c.closure-closure.ensures.stands })
    c.args.e c.args.line c.refuse_with.new.text flag
    (unlisted c.closure-closure.result.now c.size-size.result c.args.e c.is_law.result c.size-size.ensures c.is_law.ensures c.if-not-is_law.true) h) c.refuse_with.ensures

pub row_of-requires : goal.row_of-requires
row_of-requires c = listed c.closure-closure.result.now c.size-size.result c.args.e c.is_law.result c.size-size.ensures c.is_law.ensures c.if-not-is_law.false

pub count_unsettled-unsettled-requires : goal.count_unsettled-unsettled-requires
count_unsettled-unsettled-requires c =
    let known = c.closure-closure.result.now in
    let a = ap length c.in_ok-row.ensures.implied in
    let b = ap length c.in_ok-row.ensures.refuted in
    omega (arith, row_lengths (answer_of known) (length known.duals) c.args.e, a, b, c.size-size.ensures)

pub returns : goal.returns
returns c laws over =
    let known = c.closure-closure.result.now in
    answers-row laws c.args.ledger.now known (record { over = over; same = c.closure-closure.ensures.value; stands = c.closure-closure.ensures.stands })
    c.in_ok-row.ensures.says c.args.e c.args.line c.count_unsettled-unsettled.result c.in_ok-row.row.implied c.in_ok-row.row.refuted c.args.text.now c.append_row.new.text
    (listed known c.size-size.result c.args.e c.is_law.result c.size-size.ensures c.is_law.ensures c.if-not-is_law.false)
    c.in_ok-row.ensures.implied c.in_ok-row.ensures.refuted (omega (arith, c.count_unsettled-unsettled.ensures, c.size-size.ensures)) c.requires c.in_ok-append_row.ensures
