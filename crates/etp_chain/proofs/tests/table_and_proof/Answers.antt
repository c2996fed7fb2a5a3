use Rattle.etp_chain.proofs.Named.{facts_named}
use Rattle.etp_chain.proofs.tests.table_and_proof.Goals as goal

pub returns : goal.returns
returns c = facts_named c.in_ok-holds.holds c.in_ok-fails.fails c.in_ok-holds.ensures c.in_ok-fails.ensures
