use Rattle.std.proofs.Common.{arith, ◌+◌, mod-eq_of_lt, sym}
use Rattle.etp_linear.proofs.Reductions.{mod_once}
use Rattle.etp_linear.proofs.ring.sum_below.Goals as goal

pub returns-then-sum-modulus : goal.returns-then-sum-modulus
returns-then-sum-modulus c = sym (mod-eq_of_lt (omega arith))

pub returns-else-sum-modulus : goal.returns-else-sum-modulus
returns-else-sum-modulus c = mod_once (c.args.x + c.args.y) c.args.modulus (omega arith) (omega arith)
