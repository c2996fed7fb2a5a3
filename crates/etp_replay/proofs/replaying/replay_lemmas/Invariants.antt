use Rattle.std.proofs.Common.{map, take, []}
use Rattle.etp_theory.specs.Proofs.{AreRightLemmas}
use Rattle.etp_term.specs.Laws.{equation_of}
use Rattle.etp_proof.specs.Lemmas.{lemma_of}
use Rattle.etp_replay.specs.Lines.{cites_of}
use Rattle.etp_replay.proofs.replaying.replay_lemmas.Given as goal

abbrev pub invariant-loop-at : goal.invariant-loop-at
invariant-loop-at l = AreRightLemmas (equation_of l.hypothesis) (cites_of l.cites) [] (map lemma_of (take l.at l.lemmas))
