use Rattle.etp_theory.proofs.Theorems.{unification_theorems}
use Rattle.etp_theory.proofs.unification_theorems.Goals as goal

pub returns : goal.returns
returns c = unification_theorems
