use Rattle.std.proofs.Common.{arith}
use Rattle.etp_closure.proofs.closure.Closure.size.Goals as goal

pub overflow_cast-result : goal.overflow_cast-result
overflow_cast-result c = omega (arith, c.len.ensures, c.self.invariant.many, c.self.inside.duals.ok.0)
