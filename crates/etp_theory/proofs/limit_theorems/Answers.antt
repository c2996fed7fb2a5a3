use Rattle.etp_theory.proofs.Limits.{form, wide, long}
use Rattle.etp_theory.proofs.limit_theorems.Goals as goal

pub returns : goal.returns
returns c = record { form = form; wide = wide; long = long }
