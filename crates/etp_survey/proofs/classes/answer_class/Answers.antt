use Rattle.etp_print.proofs.GivenLemmas.{IfOk-then}
use Rattle.etp_survey.proofs.ReportAnswers.{Stands, answers-class, answers-no_class, listed, unlisted}
use Rattle.etp_survey.proofs.classes.answer_class.Goals as goal

pub returns-then-not-is_law : goal.returns-then-not-is_law
returns-then-not-is_law c = IfOk-then c.refuse_with.result _ _ (λ flag h laws over.
    answers-no_class laws c.args.ledger.now c.closure-closure.result.now (record { over = over; same = c.closure-closure.ensures.value; stands = c.closure-closure.ensures.stands })
    c.args.e c.args.line c.refuse_with.new.text flag
    (unlisted c.closure-closure.result.now c.size.result c.args.e c.is_law.result c.size.ensures c.is_law.ensures c.if-not-is_law.true) h) c.refuse_with.ensures

pub class_of-requires : goal.class_of-requires
class_of-requires c = listed c.closure-closure.result.now c.size.result c.args.e c.is_law.result c.size.ensures c.is_law.ensures c.if-not-is_law.false

pub returns : goal.returns
returns c laws over =
    let known = c.closure-closure.result.now in
    answers-class laws c.args.ledger.now known (record { over = over; same = c.closure-closure.ensures.value; stands = c.closure-closure.ensures.stands })
    c.in_ok-class.ensures.says c.args.e c.args.line c.in_ok-class.class c.args.text.now c.append_class.new.text
    (listed known c.size.result c.args.e c.is_law.result c.size.ensures c.is_law.ensures c.if-not-is_law.false)
    c.in_ok-class.ensures.class c.requires c.in_ok-append_class.ensures
