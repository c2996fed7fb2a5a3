use Rattle.etp_finite_body.specs.FiniteBodies.{finite_proof_of}
use Rattle.etp_finite_check.proofs.FiniteRights.{proof_refused}
use Rattle.etp_finite_check.proofs.checking.check_proof.Goals as goal

pub returns-in-Err-clause-err : goal.returns-in-Err-clause-err
returns-in-Err-clause-err c =
    proof_refused c.args.laws.now (finite_proof_of c.args.body.now) c.in-Err.refusal c.of.result c.of.ensures c.in-Err.ensures.err
