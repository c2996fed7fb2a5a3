use Rattle.std.proofs.Common.{refl}
use Rattle.etp_serving.specs.declared.serving.Ending.TheVariants.{NoMemory}
use Rattle.etp_serving.proofs.Running.{untouched-yet}
use Rattle.etp_serving.proofs.EndLemmas.{session-ends, ends-at_once, takes-none}
use Rattle.etp_serving.proofs.serving.serve.Goals as goal

-- no line was read
pub returns-in_default : goal.returns-in_default
returns-in_default g c = session-ends _ _ _ NoMemory (ends-at_once _ _ _, takes-none _ _ _) refl (untouched-yet _ _ _)
