use Rattle.etp_printed.proofs.Kept.{kept}
use Rattle.etp_printed.proofs.Again.{again}
use Rattle.etp_printed.proofs.printed_theorems.Goals as goal

pub returns : goal.returns
returns c = record { kept = kept; again = again }
