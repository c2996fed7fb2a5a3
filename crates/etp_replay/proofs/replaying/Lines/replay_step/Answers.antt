use Rattle.etp_term.specs.Terms.{tree_of}
use Rattle.etp_proof.specs.Lemmas.{step_of}
use Rattle.etp_replay.specs.Lines.{sides_of, hypothesis_in, cites_in, earlier_in}
use Rattle.etp_replay.proofs.Growing.{outcome_refused}
use Rattle.etp_replay.proofs.replaying.Lines.replay_step.Goals as goal

pub returns-in-Some-clause-err : goal.returns-in-Some-clause-err
returns-in-Some-clause-err c =
    outcome_refused (hypothesis_in c.args.self.now) (cites_in c.args.self.now) (earlier_in c.args.self.now) (tree_of c.args.from.now) (step_of c.args.step.now) c.args.place.lemma c.args.place.step (sides_of c.in-Some.sides) (sides_of c.read_as.result) c.test_step-check.result c.outcome.result c.in-Some.ensures c.read_as.ensures c.test_step-check.ensures c.outcome.ensures.err
