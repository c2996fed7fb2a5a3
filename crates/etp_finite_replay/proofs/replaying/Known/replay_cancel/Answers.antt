use Rattle.std.proofs.Common.{refl}
use Rattle.etp_term.specs.Laws.{equation_of}
use Rattle.etp_finite_replay.proofs.replaying.Known.replay_cancel.Goals as goal

pub returns-then-not-cancels-clause-err : goal.returns-then-not-cancels-clause-err
returns-then-not-cancels-clause-err c =
    (refl, record { equation = equation_of c.in-Some.law.now; named = c.in-Some.ensures; other = λ f. let t = (c.cancels.ensures c.args.c.line).1 f in let g = c.if-not-cancels.true in cc })

pub returns-clause-ok : goal.returns-clause-ok
returns-clause-ok c =
    record { equation = equation_of c.in-Some.law.now; named = c.in-Some.ensures; form = (c.cancels.ensures c.args.c.line).0 c.if-not-cancels.false }
