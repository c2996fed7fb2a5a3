use Rattle.etp_unify.proofs.Resolved.{marked_none}
use Rattle.etp_unify.proofs.values.stands_in.Goals as goal

pub stands_below-requires-clause-marked : goal.stands_below-requires-clause-marked
stands_below-requires-clause-marked c = marked_none c.args.bindings.now c.args.variable
