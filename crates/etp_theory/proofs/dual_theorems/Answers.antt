use Rattle.etp_theory.proofs.Trees.{dual_dual, dual_applied}
use Rattle.etp_theory.proofs.dual_theorems.Goals as goal

pub returns : goal.returns
returns c = record { dual_dual = dual_dual; dual_applied = dual_applied }
