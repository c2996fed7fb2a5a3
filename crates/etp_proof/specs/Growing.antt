-- Lemmas that grow at their end.
use Rattle.std.specs.Prelude.{List, [], ◌∷◌, ◌++◌}
use Rattle.etp_proof.specs.declared.proof.Step.{Step}
use Rattle.etp_proof.specs.declared.proof.Lemma.{Lemma}

-- the lemmas with one more step at the end of the last one
abbrev pub with_last_step : List Lemma → Step → List Lemma
with_last_step [] x = []
with_last_step (l ∷ []) x = record l { steps = l.steps ++ x ∷ [] } ∷ []
with_last_step (l ∷ m ∷ ls) x = l ∷ with_last_step (m ∷ ls) x
