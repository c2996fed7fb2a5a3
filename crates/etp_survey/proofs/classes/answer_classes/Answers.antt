use Rattle.etp_survey.proofs.ReportAnswers.{Stands, answers-classes}
use Rattle.etp_survey.proofs.classes.answer_classes.Goals as goal

pub returns : goal.returns
returns c laws over =
    answers-classes laws c.args.ledger.now c.closure.result.now (record { over = over; same = c.closure.ensures.value; stands = c.closure.ensures.stands })
    c.in_ok-classes.ensures.says c.args.line c.in_ok-classes.classes c.args.text.now c.append_classes.new.text c.in_ok-classes.ensures.classes c.requires c.in_ok-append_classes.ensures
