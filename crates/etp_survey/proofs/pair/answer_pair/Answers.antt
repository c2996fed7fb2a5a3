use Rattle.etp_print.proofs.GivenLemmas.{IfOk-then}
use Rattle.etp_survey.proofs.PairAnswers.{answers-pair, answers-unknown}
use Rattle.etp_survey.proofs.pair.answer_pair.Goals as goal

pub returns-in-Ok : goal.returns-in-Ok
returns-in-Ok c laws over =
    answers-pair laws c.args.ledger.now c.args.e c.args.f c.args.line c.in-Ok.answer c.args.text.now c.append_pair.new.text over c.in-Ok.ensures.listed c.in-Ok.ensures.says c.in-Ok.ensures.means c.requires c.in_ok-append_pair-in-Ok.ensures

pub returns-in-Err-UnknownLaw : goal.returns-in-Err-UnknownLaw
returns-in-Err-UnknownLaw c = IfOk-then c.refuse_with.result _ _ (λ refused h laws over.
    answers-unknown laws c.args.ledger.now c.args.e c.args.f c.args.line c.in-Err-UnknownLaw.number c.refuse_with.new.text refused over (rw c.in-Err-UnknownLaw.field-0-is at c.in-Err-UnknownLaw.ensures.err) h) c.refuse_with.ensures
