use Rattle.etp_finite_lines.specs.Said.{finite_line_of}
use Rattle.etp_finite_body.proofs.ReaderLemmas.{proof_takes_ok}
use Rattle.etp_finite_body.proofs.work.ProofWork.take.Goals as goal

pub returns-in-Some-clause-ok : goal.returns-in-Some-clause-ok
returns-in-Some-clause-ok c = rw c.in-Some.is (proof_takes_ok c.in-Some.proof c.take.new.self (finite_line_of c.args.said) c.take.result c.take.ensures.ok)
