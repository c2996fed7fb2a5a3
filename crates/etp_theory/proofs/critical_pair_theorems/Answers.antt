use Rattle.etp_theory.proofs.Overlaps.{critical_pairs}
use Rattle.etp_theory.proofs.Convergent.{convergent_local}
use Rattle.etp_theory.proofs.Renaming.{unifiers_agree}
use Rattle.etp_theory.proofs.Passing.{convergent_of, all_pass}
use Rattle.etp_theory.proofs.critical_pair_theorems.Goals as goal

pub returns : goal.returns
returns c = record { joined = λ w rules all small pairs. critical_pairs rules w all small pairs; convergent = convergent_local; agree = unifiers_agree; checked = λ w rules all small. (convergent_of w rules all small, all_pass w rules) }
