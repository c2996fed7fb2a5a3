use Rattle.etp_finite_lines.proofs.OneFiniteLine.{one}
use Rattle.etp_finite_body.proofs.FiniteReading.{one_refusal}
use Rattle.etp_finite_body.proofs.finite_body_theorems.Goals as goal

pub returns : goal.returns
returns c = record { one_line = one.one_line; one_refusal = one_refusal }
