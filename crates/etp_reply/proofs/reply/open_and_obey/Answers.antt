use Rattle.std.proofs.Common.{Some}
use Rattle.etp_reply.proofs.StateAnswers.{opens-outcome}
use Rattle.etp_reply.proofs.reply.open_and_obey.Goals as goal

pub returns-clause-gives : goal.returns-clause-gives
returns-clause-gives c s = opens-outcome s c.in_ok-opened.opened (record { opened = Some c.obey.new.opened; filing = c.obey.new.filing }) c.args.line _ c.obey.new.text c.in_ok-outcome.outcome c.in_ok-opened.ensures.opens (c.in_ok-outcome.ensures.gives s)
