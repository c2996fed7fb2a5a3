use Rattle.std.proofs.Common.{◌≡◌, [], map, take}
use Rattle.etp_theory.specs.Proofs.{last_term, AreRightSteps}
use Rattle.etp_term.specs.Terms.{tree_of}
use Rattle.etp_proof.specs.Lemmas.{step_of}
use Rattle.etp_finite_replay.specs.Known.{hypothesis_in, earlier_in}
use Rattle.etp_finite_replay.proofs.replaying.Known.replay_steps.Given as goal

abbrev pub invariant-loop-at : goal.invariant-loop-at
invariant-loop-at l = record {
  right : AreRightSteps (hypothesis_in l.self) [] (earlier_in l.self) (tree_of l.lemma.start) (map step_of (take l.at l.lemma.steps));
  from : tree_of l.from ≡ last_term (tree_of l.lemma.start) (map step_of (take l.at l.lemma.steps));
}
