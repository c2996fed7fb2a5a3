use Rattle.etp_chain.proofs.Chains.{chain_theorems}
use Rattle.etp_chain.proofs.chain_theorems.Goals as goal

pub returns : goal.returns
returns c = chain_theorems
