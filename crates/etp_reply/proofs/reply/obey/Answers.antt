use Rattle.std.proofs.Common.{refl, []}
use Rattle.std.specs.Option.{option_copied}
use Rattle.std.specs.Prelude.{codes}
use Rattle.etp_command.specs.Values.{request_from, query_from}
use Rattle.etp_print.specs.Texts.{silent}
use Rattle.etp_print.proofs.GivenLemmas.{IfOk-then}
use Rattle.etp_desk.specs.States.{over, filing}
use Rattle.etp_desk.specs.Desks.{opened_of}
use Rattle.etp_reply.proofs.StateAnswers.{at_rest, refuses-request, answers-query, withdraws}
use Rattle.etp_reply.proofs.reply.obey.Goals as goal

pub returns-in-Blank-clause-gives : goal.returns-in-Blank-clause-gives
returns-in-Blank-clause-gives c s = rw c.in-Blank.is (record {
  reply = silent;
  after = over (opened_of c.args.opened.now);
  replies = (refl, refl);
  stands = at_rest c.args.opened.now _ _ c.requires.no_body refl;
  text_is = c.requires.empty;
  refused_is = refl;
})

pub returns-in_ok-refused-in-Long-clause-gives : goal.returns-in_ok-refused-in-Long-clause-gives
returns-in_ok-refused-in-Long-clause-gives c s =
    refuses-request s c.args.opened.now _ c.args.line (request_from c.args.request) c.refuse.new.text (codes "long line") _ c.requires.no_body (rw c.in-Long.is (refl, refl)) c.in_ok-refused-in-Long.ensures

pub returns-in_ok-refused-in-Bad-clause-gives : goal.returns-in_ok-refused-in-Bad-clause-gives
returns-in_ok-refused-in-Bad-clause-gives c s =
    refuses-request s c.args.opened.now _ c.args.line (request_from c.args.request) c.refuse-in-Bad.new.text (codes "bad line") _ c.requires.no_body (rw c.in-Bad.is (refl, refl)) c.in_ok-refused-in-Bad.ensures

pub returns-in_ok-refused-in-Order-clause-gives : goal.returns-in_ok-refused-in-Order-clause-gives
returns-in_ok-refused-in-Order-clause-gives c s =
    refuses-request s c.args.opened.now _ c.args.line (request_from c.args.request) c.refuse-in-Order.new.text (codes "bad line") _ c.requires.no_body (rw c.in-Order.is (refl, refl)) c.in_ok-refused-in-Order.ensures

pub returns-in_ok-open_file-in-File-clause-gives : goal.returns-in_ok-open_file-in-File-clause-gives
returns-in_ok-open_file-in-File-clause-gives c s = record {
  reply = silent;
  after = filing (opened_of c.args.opened.now) (record { number = c.args.line; word = option_copied c.in-File.word; lines = [] });
  replies = rw c.in-File.is (refl, refl);
  stands = (record { number = c.args.line; word = option_copied c.in-File.word; lines = [] }, c.in_ok-open_file-in-File.ensures, refl);
  text_is = c.requires.empty;
  refused_is = refl;
}

pub returns-in-Load-clause-gives : goal.returns-in-Load-clause-gives
returns-in-Load-clause-gives c = IfOk-then c.open_load.result _ _ (λ outcome h s. rw (c.in-Load.is, c.requires.no_body) (h s)) c.open_load.ensures.gives

pub returns-in_ok-refused-in-Withdraw : goal.returns-in_ok-refused-in-Withdraw
returns-in_ok-refused-in-Withdraw c = record {
  gives = λ s. rw c.in-Withdraw.is (withdraws s c.args.opened.now c.answer_withdrawal.new.opened _ c.args.line _ c.answer_withdrawal.new.text _ c.requires.no_body c.in_ok-refused-in-Withdraw.ensures);
  agrees = c.in_ok-refused-in-Withdraw.ensures.stands.agrees;
}

pub returns-in_ok-refused-in-Query-clause-gives : goal.returns-in_ok-refused-in-Query-clause-gives
returns-in_ok-refused-in-Query-clause-gives c s =
    answers-query s c.args.opened.now _ c.args.line (request_from c.args.request) (query_from c.in-Query.query) c.answer_query.new.text _ c.requires.no_body (rw c.in-Query.is refl) c.in_ok-refused-in-Query.ensures
