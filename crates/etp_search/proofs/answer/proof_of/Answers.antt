use Rattle.std.proofs.Common.{List, [], ◌∷◌, ◌++◌, map, ap, ◌∙◌}
use Rattle.etp_proof.specs.Lemmas.{lemma_of}
use Rattle.etp_proof.specs.declared.proof.Lemma.{Lemma}
use Rattle.etp_search.proofs.answer.proof_of.Goals as goal

pub returns-clause-lemmas : goal.returns-clause-lemmas
returns-clause-lemmas c = ap (map lemma_of) (c.in_ok-push.ensures.ok ∙ ap (λ (ls : List Lemma). ls ++ c.args.lemma ∷ []) c.empty-lemmas.ensures)
