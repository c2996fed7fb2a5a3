use Rattle.etp_items.proofs.Theorems.{body_theorems}
use Rattle.etp_items.proofs.body_theorems.Goals as goal

pub returns : goal.returns
returns c = body_theorems
