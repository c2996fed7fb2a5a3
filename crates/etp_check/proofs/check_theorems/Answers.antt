use Rattle.etp_check.proofs.Verdicts.{right_or_refused, one_offence}
use Rattle.etp_check.proofs.check_theorems.Goals as goal

pub returns : goal.returns
returns c = record { right_or_refused = right_or_refused; one_offence = one_offence }
