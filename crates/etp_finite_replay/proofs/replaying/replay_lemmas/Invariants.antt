use Rattle.std.proofs.Common.{◌≡◌, [], map, take, length}
use Rattle.etp_term.specs.Laws.{equation_of}
use Rattle.etp_cancel.specs.Cancelling.{finite_conclusions, AreRightFiniteLemmas}
use Rattle.etp_finite_body.specs.FiniteBodies.{finite_lemma_of}
use Rattle.etp_finite_replay.proofs.replaying.replay_lemmas.Given as goal

abbrev pub invariant-loop-at : goal.invariant-loop-at
invariant-loop-at l = record {
  right : AreRightFiniteLemmas (equation_of l.hypothesis) [] (map finite_lemma_of (take l.at l.lemmas));
  found : map equation_of l.earlier.items ≡ finite_conclusions (map finite_lemma_of (take l.at l.lemmas));
  long : length l.earlier.items ≡ l.at;
}
