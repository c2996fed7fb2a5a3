use Rattle.std.proofs.Common.{arith}
use Rattle.etp_matrix.proofs.vectors.product.Goals as goal

pub apply-requires-clause-x : goal.apply-requires-clause-x
apply-requires-clause-x c = c.requires.q 0 (omega arith)

pub apply-requires-2-clause-x : goal.apply-requires-2-clause-x
apply-requires-2-clause-x c = c.requires.q 1 (omega arith)

pub apply-requires-3-clause-x : goal.apply-requires-3-clause-x
apply-requires-3-clause-x c = c.requires.q 2 (omega arith)

pub apply-requires-4-clause-x : goal.apply-requires-4-clause-x
apply-requires-4-clause-x c = c.requires.q 3 (omega arith)
