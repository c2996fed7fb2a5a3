use Rattle.etp_theory.proofs.Trees.{composed, identity}
use Rattle.etp_theory.proofs.Sameness.{renamed_applied}
use Rattle.etp_theory.proofs.Finite.{finite_enough}
use Rattle.etp_theory.proofs.substitution_theorems.Goals as goal

pub returns : goal.returns
returns c = record { composed = composed; identity = identity; renaming = renamed_applied; finite_enough = finite_enough }
