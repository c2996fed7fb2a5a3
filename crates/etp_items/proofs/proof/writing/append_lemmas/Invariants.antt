use Rattle.std.proofs.Common.{◌≡◌, ◌++◌, map, take}
use Rattle.etp_proof.specs.Lemmas.{lemma_of}
use Rattle.etp_items.specs.Reading.{lemma_lines}
use Rattle.etp_items.specs.Written.{written_proof_lines}
use Rattle.etp_items.proofs.proof.writing.append_lemmas.Given as goal

abbrev pub invariant-loop-lemma : goal.invariant-loop-lemma
invariant-loop-lemma l = l.text ≡ l.initial.text ++ written_proof_lines (lemma_lines (map lemma_of (take l.lemma-index l.lemmas)))
