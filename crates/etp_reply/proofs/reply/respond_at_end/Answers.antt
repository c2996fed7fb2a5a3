use Rattle.std.proofs.Common.{sym, ◌∙◌}
use Rattle.etp_print.proofs.GivenLemmas.{IfOk-then}
use Rattle.etp_reply.proofs.StateAnswers.{closes-open}
use Rattle.etp_reply.proofs.reply.respond_at_end.Goals as goal

pub returns-in-Some-opened : goal.returns-in-Some-opened
returns-in-Some-opened c = IfOk-then c.answer_file.result _ _ (λ refusal h state at bad.
    closes-open c.in-Some-opened.opened c.answer_file.new.opened c.in-Some.filing c.answer_file.new.text refusal bad state (rw (sym c.take.ensures.value ∙ c.in-Some.is, c.in-Some-opened.is) at at) h) c.answer_file.ensures
