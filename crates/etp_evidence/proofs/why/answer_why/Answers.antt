use Rattle.std.proofs.Common.{◌++◌, ◌∙◌, ap}
use Rattle.etp_closure.specs.declared.facts.Answer.{Answer}
use Rattle.etp_report.specs.Blocks.{answer_text}
use Rattle.etp_ledger.specs.Evidence.{answer_shown}
use Rattle.etp_print.proofs.GivenLemmas.{IfOk-then}
use Rattle.etp_survey.specs.PairReplies.{pair_line}
use Rattle.etp_evidence.proofs.Shown.{answers-why, answers-unknown}
use Rattle.etp_evidence.proofs.why.answer_why.Goals as goal

pub returns-in-Ok : goal.returns-in-Ok
returns-in-Ok c =
    answers-why c.args.laws.now c.args.ledger.now c.args.e c.args.f c.args.line (answer_shown c.in-Ok.why) c.args.text.now c.append_pair.new.text c.append_shown.new.text
    c.requires.over c.in-Ok.ensures.listed c.in-Ok.ensures.says c.in-Ok.ensures.means c.requires.empty
    (c.in_ok-append_pair-in-Ok.ensures ∙ ap (λ (a : Answer). c.args.text.now ++ pair_line c.args.e c.args.f (answer_text a)) c.answer.ensures) c.in_ok-append_shown-in-Ok.ensures

pub returns-in-Err-UnknownLaw : goal.returns-in-Err-UnknownLaw
returns-in-Err-UnknownLaw c = IfOk-then c.refuse_with.result _ _ (λ refused h.
    answers-unknown c.args.laws.now c.args.ledger.now c.args.e c.args.f c.args.line c.in-Err-UnknownLaw.number c.refuse_with.new.text refused c.requires.over
    (rw c.in-Err-UnknownLaw.field-0-is at c.in-Err-UnknownLaw.ensures.err) (rw c.in-Err-UnknownLaw.number-is at h)) c.refuse_with.ensures
