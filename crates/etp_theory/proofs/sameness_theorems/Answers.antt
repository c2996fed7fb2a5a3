use Rattle.etp_theory.proofs.Sameness.{reflexive, symmetric, transitive, dualised, same_derives}
use Rattle.etp_theory.proofs.sameness_theorems.Goals as goal

pub returns : goal.returns
returns c = record { reflexive = reflexive; symmetric = symmetric; transitive = transitive; dualised = dualised; derived = same_derives }
