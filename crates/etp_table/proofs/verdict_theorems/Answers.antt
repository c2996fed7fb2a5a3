use Rattle.etp_table.proofs.Theorems.{verdict_theorems}
use Rattle.etp_table.proofs.verdict_theorems.Goals as goal

pub returns : goal.returns
returns c = verdict_theorems
