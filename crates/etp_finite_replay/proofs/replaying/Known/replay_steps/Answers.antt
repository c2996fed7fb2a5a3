use Rattle.std.proofs.Common.{◌≡◌, [], Err, rules}
use Rattle.etp_term.specs.Terms.{tree_of}
use Rattle.etp_replay.proofs.Growing.{steps_more}
use Rattle.etp_finite_replay.specs.Known.{hypothesis_in, earlier_in}
use Rattle.etp_finite_replay.proofs.Naming.{steps_refused}
use Rattle.etp_finite_replay.proofs.replaying.Known.replay_steps.Goals as goal

pub loop-at-preserved : goal.loop-at-preserved
loop-at-preserved c =
    let more = steps_more (hypothesis_in c.args.self.now) [] (earlier_in c.args.self.now) (tree_of c.args.lemma.now.start) (tree_of c.loop-at.from.now) c.args.lemma.now.steps c.as_slice-step-items.result.now c.loop-at.at c.step-item.result c.as_slice-step-items.ensures.value c.loop-at-test.true c.step-item.is c.loop-at.invariant.right c.loop-at.invariant.from c.in_ok-replay_step.ensures.ok in
    record { right = more.0; from = more.1 }

pub returns-in_err-replay_step-clause-err : goal.returns-in_err-replay_step-clause-err
returns-in_err-replay_step-clause-err c =
    let k : c.from_residual.result ≡ Err c.in_err-replay_step.field-0.0 = search rules in
    rw k (steps_refused (hypothesis_in c.args.self.now) (earlier_in c.args.self.now) c.args.lemma.now (tree_of c.loop-at.from.now) c.as_slice-step-items.result.now c.loop-at.at c.step-item.result c.args.number c.in_err-replay_step.field-0.0 c.as_slice-step-items.ensures.value c.loop-at-test.true c.step-item.is c.loop-at.invariant.right c.loop-at.invariant.from c.in_err-replay_step.ensures.err)
