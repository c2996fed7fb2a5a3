use Rattle.etp_finite_lines.specs.Said.{finite_line_of}
use Rattle.etp_finite_body.proofs.ReaderLemmas.{proof_opened}
use Rattle.etp_finite_body.proofs.work.ProofWork.open.Goals as goal

pub returns : goal.returns
returns c = rw c.is_some.ensures (proof_opened c.args.self.now.proof c.opened.result (finite_line_of c.args.said) c.requires c.opened.ensures)
