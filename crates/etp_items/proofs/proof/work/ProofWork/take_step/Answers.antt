use Rattle.std.proofs.Common.{◌<◌, length, map, arith, rules, ◌≡◌, true}
use Rattle.etp_lines.specs.ProofLines.{heading, cite}
use Rattle.etp_lines.specs.Said.{version_of}
use Rattle.etp_lines.specs.ProofLines.{may_step}
use Rattle.etp_items.proofs.WorkLemmas.{step_taken}
use Rattle.etp_items.proofs.proof.work.ProofWork.take_step.Goals as goal

pub returns-clause-ok : goal.returns-clause-ok
returns-clause-ok c =
    let w = c.args.self.now in
    let some : 0 < length w.proof.lemmas = omega arith in
    let may : may_step (version_of w.version) c.args.step.cited ≡ true = search rules in
    let taken = step_taken (heading (version_of w.version) w.proof.hypothesis w.proof.goal) (map cite w.proof.cites) (version_of w.version) w.proof.cites w.proof.lemmas c.push_step.new.self c.args.step some may c.in_ok-push_step.ensures.ok in
    (taken.0, taken.1)
