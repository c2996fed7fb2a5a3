use Rattle.std.proofs.Common.{arith}
use Rattle.etp_search.proofs.space.Space.has.Goals as goal

pub returns-then-leaves-self : goal.returns-then-leaves-self
returns-then-leaves-self c =
    let n = c.leaves.ensures in
    let k = c.if-leaves-self.true in
    ((λ h. record { narrow = omega (arith, n, k); known = c.is_below.ensures.0 h }), λ h. c.is_below.ensures.1 h.known)
