use Rattle.etp_survey.proofs.PairAnswers.{answers-counts}
use Rattle.etp_survey.proofs.pair.answer_counts.Goals as goal

pub returns : goal.returns
returns c laws over =
    answers-counts laws c.args.ledger.now c.closure.result.now c.args.line c.count_answers-counts.result c.args.text.now c.append_counts.new.text over c.closure.ensures.value
    c.count_answers-counts.ensures.implied c.count_answers-counts.ensures.refuted c.count_answers-counts.ensures.unsettled c.count_answers-counts.ensures.says c.closure.ensures.stands c.requires c.in_ok-append_counts.ensures
