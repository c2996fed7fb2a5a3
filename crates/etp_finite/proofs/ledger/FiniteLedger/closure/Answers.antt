use Rattle.etp_finite.proofs.Meaning.{seen, closure_means}
use Rattle.etp_finite.proofs.ledger.FiniteLedger.closure.Goals as goal

pub returns-clause-means : goal.returns-clause-means
returns-clause-means c =
    let now = c.args.self.now in closure_means now.files now.closure (seen _ now c.self.view_is c.self.invariant)
