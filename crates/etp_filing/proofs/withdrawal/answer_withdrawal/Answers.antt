use Rattle.std.proofs.Common.{refl}
use Rattle.std.specs.Prelude.{codes}
use Rattle.etp_print.specs.Texts.{refused}
use Rattle.etp_filing.specs.Withdrawals.{no_name}
use Rattle.etp_print.proofs.GivenLemmas.{IfOk-then, untrue}
use Rattle.etp_desk.proofs.Opening.{kept}
use Rattle.etp_filing.proofs.withdrawal.answer_withdrawal.Goals as goal

pub returns-then-not-branch : goal.returns-then-not-branch
returns-then-not-branch c = IfOk-then c.refuse.result _ _ (λ refusal h. record {
  reply = refused (codes "bad line");
  files = c.args.opened.now.ledger.files;
  is = no_name (untrue c.in_ok-is_name.field-0 _ c.in_ok-is_name.ensures c.if-not-branch.true) refl refl;
  stands = kept c.args.opened.now c.requires.agrees;
  text_is = h.0;
  refused_is = h.1;
}) c.refuse.ensures
