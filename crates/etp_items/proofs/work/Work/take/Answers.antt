use Rattle.etp_lines.specs.Said.{proof_line_of}
use Rattle.etp_items.proofs.ReaderLemmas.{proof_takes_ok}
use Rattle.etp_items.proofs.work.Work.take.Goals as goal

pub returns-in-Proof-said-clause-ok : goal.returns-in-Proof-said-clause-ok
returns-in-Proof-said-clause-ok c =
    rw c.in-Proof.is (rw c.in-Proof-said.is (proof_takes_ok c.in-Proof.work c.take.new.self (proof_line_of c.in-Proof-said.said) c.take.result c.take.ensures.ok))
