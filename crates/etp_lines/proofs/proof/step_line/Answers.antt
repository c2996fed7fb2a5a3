use Rattle.etp_proof.specs.Lemmas.{step_of}
use Rattle.etp_lines.proofs.OneProofLine.{cited_only}
use Rattle.etp_lines.proofs.proof.step_line.Goals as goal

pub returns-in_default-clause-step : goal.returns-in_default-clause-step
returns-in_default-clause-step c x s e = (rw c.in_default.is at c.in_ok-step.ensures) x s

pub returns-then-step-clause-step : goal.returns-then-step-clause-step
returns-then-step-clause-step c = cited_only c.args.line.now (step_of c.in-Some.step) (rw c.in-Some.is at c.in_ok-step.ensures) c.if-step.true
