use Rattle.etp_theory.proofs.Theorems.{proof_theorems}
use Rattle.etp_theory.proofs.proof_theorems.Goals as goal

pub returns : goal.returns
returns c = proof_theorems
