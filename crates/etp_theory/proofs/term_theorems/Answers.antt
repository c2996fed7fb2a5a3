use Rattle.etp_theory.proofs.Theorems.{term_theorems}
use Rattle.etp_theory.proofs.term_theorems.Goals as goal

pub returns : goal.returns
returns c = term_theorems
