use Rattle.etp_theory.proofs.Weights.{weigh_split, rule_falls}
use Rattle.etp_theory.proofs.Overlaps.{kept_variables}
use Rattle.etp_theory.proofs.weight_theorems.Goals as goal

pub returns : goal.returns
returns c = record { by_coefficients = weigh_split; rule_falls = λ w e d f. rule_falls w e f d; kept = kept_variables }
