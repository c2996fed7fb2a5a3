use Rattle.etp_finite_lines.proofs.OneFiniteLine.{one}
use Rattle.etp_finite_lines.proofs.finite_line_theorems.Goals as goal

pub returns : goal.returns
returns c = one
