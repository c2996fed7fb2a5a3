use Rattle.etp_laws.proofs.DualNumbers.{duals_of, inverse_of}
use Rattle.etp_laws.proofs.laws.Laws.duals.Goals as goal

pub returns-clause-exact : goal.returns-clause-exact
returns-clause-exact c = duals_of c.args.self.now c.self.inside.order _ _ c.self.view_is c.self.invariant.1 c.self.invariant.2 c.self.invariant.3

pub returns-clause-inverse : goal.returns-clause-inverse
returns-clause-inverse c = inverse_of c.args.self.now c.self.inside.order _ _ c.self.view_is c.self.invariant.1 c.self.invariant.2 c.self.invariant.3
