use Rattle.std.proofs.Common.{sym, ◌∙◌}
use Rattle.etp_print.proofs.GivenLemmas.{IfOk-then}
use Rattle.etp_reply.proofs.reply.respond.Goals as goal

pub returns-in_ok-refused-in-Some-clause-gives : goal.returns-in_ok-refused-in-Some-clause-gives
returns-in_ok-refused-in-Some-clause-gives c s state at = c.in_ok-refused-in-Some.ensures.gives s state c.args.number (rw (sym c.take.ensures.value ∙ c.in-Some.is) at at)

pub returns-in-None-clause-gives : goal.returns-in-None-clause-gives
returns-in-None-clause-gives c = IfOk-then c.respond_to_request.result _ _ (λ outcome h s state at. h s state (rw c.take.ensures.after (rw (sym c.take.ensures.value ∙ c.in-None.is) at at))) c.respond_to_request.ensures.gives
