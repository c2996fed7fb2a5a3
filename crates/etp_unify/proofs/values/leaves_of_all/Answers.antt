use Rattle.std.proofs.Common.{arith, refl}
use Rattle.etp_unify.proofs.Resolved.{counted_none}
use Rattle.etp_unify.proofs.values.leaves_of_all.Goals as goal

pub loop-v-init : goal.loop-v-init
loop-v-init c = (refl, counted_none c.args.bindings.now, omega arith, λ v h. absurd (omega (arith, h)))
