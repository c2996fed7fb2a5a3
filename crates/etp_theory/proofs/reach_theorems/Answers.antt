use Rattle.etp_theory.proofs.Theorems.{reach_theorems}
use Rattle.etp_theory.proofs.reach_theorems.Goals as goal

pub returns : goal.returns
returns c = reach_theorems
