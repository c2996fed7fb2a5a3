use Rattle.etp_canonical.proofs.Deciding.{judged_or_not}
use Rattle.etp_canonical.proofs.Offences.{not_both, one_offence}
use Rattle.etp_canonical.proofs.theorems.canonical_theorems.Goals as goal

pub returns : goal.returns
returns c = record { judged_or_not = judged_or_not; not_both = not_both; one_offence = one_offence }
