use Rattle.std.proofs.Common.{map}
use Rattle.etp_lines.specs.ProofLines.{heading, cite}
use Rattle.etp_lines.specs.Said.{version_of}
use Rattle.etp_items.proofs.WorkLemmas.{lemma_taken}
use Rattle.etp_items.proofs.proof.work.ProofWork.take_lemma.Goals as goal

pub returns-clause-ok : goal.returns-clause-ok
returns-clause-ok c =
    let w = c.args.self.now in
    let taken = lemma_taken (heading (version_of w.version) w.proof.hypothesis w.proof.goal) (map cite w.proof.cites) (version_of w.version) w.proof.cites w.proof.lemmas c.push.new.self c.args.start c.empty.result c.empty.ensures c.in_ok-push.ensures.ok in
    (taken.0, taken.1)
