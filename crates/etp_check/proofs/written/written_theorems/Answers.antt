use Rattle.etp_check.proofs.WrittenBack.{valid_body_short, valid_body_reads}
use Rattle.etp_check.proofs.written.written_theorems.Goals as goal

pub returns : goal.returns
returns c = record { valid_body_short = valid_body_short; valid_body_reads = valid_body_reads }
