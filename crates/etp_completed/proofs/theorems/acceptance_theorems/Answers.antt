use Rattle.etp_completed.proofs.Accepting.{valid, accepted}
use Rattle.etp_completed.proofs.theorems.acceptance_theorems.Goals as goal

pub returns : goal.returns
returns c = record { valid = valid; accepted = accepted }
