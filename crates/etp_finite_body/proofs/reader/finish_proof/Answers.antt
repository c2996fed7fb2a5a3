use Rattle.std.proofs.Common.{inr}
use Rattle.etp_finite_body.proofs.reader.finish_proof.Goals as goal

pub returns-in-Ok-clause-ok : goal.returns-in-Ok-clause-ok
returns-in-Ok-clause-ok c lines read = c.in-Ok.ensures.ok lines read.0

pub returns-in-Err-clause-err : goal.returns-in-Err-clause-err
returns-in-Err-clause-err c lines read = (read.1, inr (read.2, c.in-Err.ensures.err lines read.0))
