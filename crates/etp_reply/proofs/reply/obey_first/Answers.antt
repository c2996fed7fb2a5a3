use Rattle.std.proofs.Common.{refl}
use Rattle.etp_print.specs.Texts.{silent}
use Rattle.etp_print.proofs.GivenLemmas.{IfOk-then}
use Rattle.etp_desk.specs.States.{over}
use Rattle.etp_desk.specs.Desks.{opened_of}
use Rattle.etp_reply.proofs.StateAnswers.{at_rest, IsOutcome-map}
use Rattle.etp_reply.proofs.ReplyLemmas.{first-reply}
use Rattle.etp_reply.proofs.reply.obey_first.Goals as goal

pub returns-in_ok-start-in-Order-clause-gives : goal.returns-in_ok-start-in-Order-clause-gives
returns-in_ok-start-in-Order-clause-gives c s = record {
  reply = silent;
  after = over (opened_of c.in_ok-start-in-Order.field-0);
  replies = rw c.in-Order.is (opened_of c.in_ok-start-in-Order.field-0, c.in_ok-start-in-Order.ensures.opens, refl, refl);
  stands = at_rest c.in_ok-start-in-Order.field-0 _ _ c.requires.no_body refl;
  text_is = c.requires.empty;
  refused_is = refl;
}

pub returns-in_default : goal.returns-in_default
returns-in_default c = record {
  gives = IfOk-then c.open_and_obey.result _ _ (λ outcome h s. IsOutcome-map s c.args.line c.open_and_obey.new.text c.open_and_obey.new.desk _ _ _ _ outcome
      (first-reply s c.args.request c.args.line c.in_default.not-Blank c.in_default.not-Order) (λ name x. x) (h s)) c.open_and_obey.ensures.gives;
  laws = c.open_and_obey.ensures.laws;
}
