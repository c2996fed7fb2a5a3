use Rattle.etp_finite_body.proofs.ReaderLemmas.{pushed_any_blank}
use Rattle.etp_finite_body.proofs.proof_reader.ProofReader.push_blank.Goals as goal

pub returns-clause-read : goal.returns-clause-read
returns-clause-read c lines bytes read blank = rw c.count_line.ensures (pushed_any_blank c.args.self.now lines bytes read blank)
