use Rattle.std.proofs.Common.{refl, sym, ◌∙◌}
use Rattle.etp_proof.specs.Lemmas.{step_of}
use Rattle.etp_finite_body.proofs.WorkLemmas.{cite_left, step_left, step_taken}
use Rattle.etp_finite_body.proofs.body.FiniteProof.take_step.Goals as goal

pub returns-then-step-clause-ok : goal.returns-then-step-clause-ok
returns-then-step-clause-ok c = cite_left c.args.self.now (step_of c.args.step) c.if-step.true

pub returns-then-not-ends_in_steps-clause-ok : goal.returns-then-not-ends_in_steps-clause-ok
returns-then-not-ends_in_steps-clause-ok c = step_left c.args.self.now (step_of c.args.step) (sym c.ends_in_steps.ensures ∙ c.if-not-ends_in_steps.true)

pub returns-clause-ok : goal.returns-clause-ok
returns-clause-ok c =
    let w = c.args.self.now in
    let taken = step_taken w (record { hypothesis = w.hypothesis; goal = w.goal; lemmas = c.push_step.new.self }) c.args.step refl refl c.in_ok-push_step.ensures.ok c.if-step.false (sym c.ends_in_steps.ensures ∙ c.if-not-ends_in_steps.false) in
    (taken.0, taken.1)
