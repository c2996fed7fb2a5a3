-- Lemmas that grow at their end.
use Rattle.std.specs.Prelude.{Bool, true, false, List, [], ◌∷◌, ◌++◌}
use Rattle.etp_proof.specs.declared.proof.Step.{Step}
use Rattle.etp_finite_body.specs.declared.lemmas.FiniteLemma.{FiniteLemma}
use Rattle.etp_finite_body.specs.declared.lemmas.FiniteLemma.TheVariants.{Steps, Cancel}

-- a lemma that may have more steps
abbrev pub is_steps : FiniteLemma → Bool
is_steps (Steps l) = true
is_steps (Cancel line variable outer inner) = false

-- the last lemma is such a one; without lemmas, what is given
abbrev pub ends_from : Bool → List FiniteLemma → Bool
ends_from b [] = b
ends_from b (l ∷ ls) = ends_from (is_steps l) ls

abbrev pub ends_in_steps : List FiniteLemma → Bool
ends_in_steps ls = ends_from false ls

-- the lemma with one more step
abbrev pub with_step : FiniteLemma → Step → FiniteLemma
with_step (Steps l) x = Steps (record l { steps = l.steps ++ x ∷ [] })
with_step (Cancel line variable outer inner) x = Cancel line variable outer inner

-- the lemmas with one more step at the end of the last one
abbrev pub with_last_step : List FiniteLemma → Step → List FiniteLemma
with_last_step [] x = []
with_last_step (l ∷ []) x = with_step l x ∷ []
with_last_step (l ∷ m ∷ ls) x = l ∷ with_last_step (m ∷ ls) x
