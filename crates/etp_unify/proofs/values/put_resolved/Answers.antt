use Rattle.std.proofs.Common.{sym}
use Rattle.etp_unify.proofs.Solutions.{put_bound}
use Rattle.etp_unify.proofs.values.put_resolved.Goals as goal

pub returns-in_ok-bind : goal.returns-in_ok-bind
returns-in_ok-bind c = put_bound c.args.bindings.now c.args.subst.now c.bind.new.self c.args.variable c.in_ok-term.term _ c.requires.free (sym c.in-Some.ensures) c.in_ok-term.ensures c.in_ok-bind.ensures.ok
