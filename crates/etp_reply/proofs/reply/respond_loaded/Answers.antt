use Rattle.etp_print.proofs.GivenLemmas.{IfOk-then}
use Rattle.etp_reply.proofs.StateAnswers.{answers-load, loading-stands, not-loading}
use Rattle.etp_reply.proofs.reply.respond_loaded.Goals as goal

pub answer_file-requires-clause-stands : goal.answer_file-requires-clause-stands
answer_file-requires-clause-stands c =
    let l = c.requires.loads in loading-stands c.args.desk.now c.in-Some.opened l.0 l.1 l.2 c.args.filing c.in-Some.is l.3

pub returns-in-Some-clause-gives : goal.returns-in-Some-clause-gives
returns-in-Some-clause-gives c = IfOk-then c.answer_file.result _ _ (λ refused h s n name lines l there.
    answers-load s c.args.desk.now c.in-Some.opened c.answer_file.new.opened c.args.filing n name c.answer_file.new.text lines refused c.in-Some.is h l there) c.answer_file.ensures

pub returns-in-None-clause-gives : goal.returns-in-None-clause-gives
returns-in-None-clause-gives c s n name lines l there = absurd (not-loading c.args.desk.now n name lines c.args.filing c.in-None.is l)
