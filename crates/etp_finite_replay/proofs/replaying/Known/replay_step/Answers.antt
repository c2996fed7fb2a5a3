use Rattle.etp_term.specs.Terms.{tree_of}
use Rattle.etp_term.specs.Laws.{equation_of}
use Rattle.etp_proof.specs.Lemmas.{step_of}
use Rattle.etp_finite_replay.specs.Known.{hypothesis_in, earlier_in}
use Rattle.etp_finite_replay.proofs.Naming.{outcome_refused}
use Rattle.etp_finite_replay.proofs.replaying.Known.replay_step.Goals as goal

pub returns-in_ok-check-in-Some-clause-err : goal.returns-in_ok-check-in-Some-clause-err
returns-in_ok-check-in-Some-clause-err c =
    outcome_refused (hypothesis_in c.args.self.now) (earlier_in c.args.self.now) (tree_of c.args.from.now) (step_of c.args.step.now) c.args.place.lemma c.args.place.step (equation_of c.in-Some.law.now) c.in_ok-check-in-Some.check c.outcome.result c.in-Some.ensures c.in_ok-check-in-Some.ensures c.outcome.ensures.err
