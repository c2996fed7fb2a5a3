use Rattle.std.proofs.Common.{sym, ◌∙◌}
use Rattle.etp_reading.specs.Reading.{given_text}
use Rattle.etp_print.proofs.GivenLemmas.{IfOk-then}
use Rattle.etp_reply.proofs.StateAnswers.{closes-body, goes-on-body}
use Rattle.etp_reply.proofs.reply.respond_in_body.Goals as goal

pub returns-then-closes_body-clause-gives : goal.returns-then-closes_body-clause-gives
returns-then-closes_body-clause-gives c = IfOk-then c.answer_file.result _ _ (λ refused h s state number at.
    closes-body s c.in-Some.opened c.answer_file.new.opened _ c.args.filing number (given_text c.args.line) c.answer_file.new.text refused state c.requires.no_body (sym c.closes_body.ensures ∙ c.if-closes_body.true) (rw c.in-Some.is at at) h) c.answer_file.ensures

pub returns-clause-gives : goal.returns-clause-gives
returns-clause-gives c s state number at =
    goes-on-body s c.in-Some.opened c.args.filing c.in_ok-take_line.field-0 number c.args.line c.args.text.now state (sym c.closes_body.ensures ∙ c.if-closes_body.false) c.requires.empty (rw c.in-Some.is at at) c.in_ok-take_line.ensures
