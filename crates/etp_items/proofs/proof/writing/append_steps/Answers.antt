use Rattle.std.proofs.Common.{◌∙◌}
use Rattle.etp_items.proofs.WrittenLemmas.{more_steps}
use Rattle.etp_items.proofs.proof.writing.append_steps.Goals as goal

pub loop-step-preserved : goal.loop-step-preserved
loop-step-preserved c =
    c.in_ok-append_step.ensures ∙ more_steps c.args.steps.now c.loop-step.step-index c.step-item.result c.args.text.now c.loop-step.text c.loop-step-test.true c.step-item.is c.loop-step.invariant
