use Rattle.etp_theory.proofs.Theorems.{position_theorems}
use Rattle.etp_theory.proofs.position_theorems.Goals as goal

pub returns : goal.returns
returns c = position_theorems
