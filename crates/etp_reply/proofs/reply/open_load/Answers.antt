use Rattle.std.proofs.Common.{[], refl}
use Rattle.etp_filing.specs.Filings.{loading}
use Rattle.etp_reply.proofs.StateAnswers.{refuses-load}
use Rattle.etp_reply.proofs.reply.open_load.Goals as goal

pub returns-then-has_free_name-clause-gives : goal.returns-then-has_free_name-clause-gives
returns-then-has_free_name-clause-gives c s =
    let free = rw c.if-has_free_name.true at (c.has_free_name.ensures c.args.opened.now c.args.line c.args.word.now c.in_ok-filing.ensures) in
    record {
      none_yet = c.requires.empty;
      load = (refl, free);
      loading = record { opened = c.args.opened.now; stands = refl; no_body = refl; free = free; pending = c.in_ok-filing.ensures };
      replies = λ reply after x. x;
    }

pub returns-clause-gives : goal.returns-clause-gives
returns-clause-gives c s =
    refuses-load s c.args.opened.now c.answer_file.new.opened c.args.line c.args.word.now c.answer_file.new.text c.in_ok-refused.refused
    (rw c.if-has_free_name.false at (c.has_free_name.ensures c.args.opened.now c.args.line c.args.word.now c.in_ok-filing.ensures))
    (c.in_ok-refused.ensures (loading c.args.line c.args.word.now []) c.in_ok-filing.ensures)
