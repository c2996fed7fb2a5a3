use Rattle.etp_laws.proofs.Entries.{the_list}
use Rattle.etp_laws.proofs.laws.Laws.order.Goals as goal

pub returns-clause-list : goal.returns-clause-list
returns-clause-list c = the_list c.args.self.now c.self.inside.order _ _ c.self.view_is c.self.invariant.2
