use Rattle.std.proofs.Common.{◌<◌, length, arith}
use Rattle.etp_finite_body.proofs.ReaderLemmas.{proof_whole}
use Rattle.etp_finite_body.proofs.work.ProofWork.into_proof.Goals as goal

pub returns-then-len-gt0 : goal.returns-then-len-gt0
returns-then-len-gt0 c =
    let some : 0 < length c.in_ok-proof.proof.lemmas = omega arith in
    proof_whole c.args.self.proof c.in_ok-proof.proof c.in_ok-proof.was some
