use Rattle.std.proofs.Common.{Some}
use Rattle.etp_reading.specs.Reading.{given_text}
use Rattle.etp_print.proofs.GivenLemmas.{IfOk-then}
use Rattle.etp_reply.proofs.StateAnswers.{over-outcome, first-outcome}
use Rattle.etp_reply.proofs.reply.respond_to_request.Goals as goal

pub returns-in-Some-clause-gives : goal.returns-in-Some-clause-gives
returns-in-Some-clause-gives c = IfOk-then c.obey.result _ _ (λ outcome h s state at.
    over-outcome s c.in-Some.opened c.args.number _ (given_text c.args.line) c.obey.new.text (record { opened = Some c.obey.new.opened; filing = c.obey.new.filing }) outcome state c.request_in-request.ensures.request (rw (c.in-Some.is, c.requires.no_body) at at) (h s)) c.obey.ensures.gives

pub returns-in-None-clause-gives : goal.returns-in-None-clause-gives
returns-in-None-clause-gives c = IfOk-then c.obey_first.result _ _ (λ outcome h s state at.
    first-outcome s c.args.number _ (given_text c.args.line) c.obey_first.new.text c.obey_first.new.desk outcome state c.request_in-request.ensures.request (rw (c.in-None.is, c.requires.no_body) at at) (h s)) c.obey_first.ensures.gives
