-- What the lines of a file about finite magmas say, without the program's types.
use Rattle.std.specs.Prelude.{ℕ, List, [], ◌∷◌, ◌++◌, map}
use Rattle.etp_term.specs.Terms.{tree_of}
use Rattle.etp_proof.specs.Lemmas.{lemma_of}
use Rattle.etp_lines.specs.Claims.{Claims}
use Rattle.etp_lines.specs.ProofLines.{plain, heading, lemma, step}
use Rattle.etp_lines.specs.BodyLines.{proof_line}
use Rattle.etp_items.specs.Bodies.{Model, table, linear, claims_of, linear_in}
use Rattle.etp_cancel.specs.Cancelling.{FiniteLemma, by_steps, by_cancel}
use Rattle.etp_finite_lines.specs.FiniteLines.{FiniteLine, body, cancel}
use Rattle.etp_finite_body.specs.declared.lemmas.FiniteLemma as Lemmas
use Rattle.etp_finite_body.specs.declared.lemmas.FiniteLemma.TheVariants.{Steps, Cancel}
use Rattle.etp_finite_body.specs.declared.body.FiniteProof.{FiniteProof}
use Rattle.etp_finite_body.specs.declared.body.FiniteBody.{FiniteBody}
use Rattle.etp_finite_body.specs.declared.body.FiniteBody.TheVariants.{Proof, Table, Linear}

-- a proof of the law numbered `goal` from the one numbered `hypothesis` by lemmas
pub record FiniteProofBody : Type 0 where
  pub hypothesis : ℕ
  pub goal : ℕ
  pub lemmas : List FiniteLemma

-- what the lines of a file are
pub data FiniteFileBody : Type 0 where
  proof : FiniteProofBody → FiniteFileBody
  -- a magma, laws that hold in it and laws that fail
  model : Model → Claims → FiniteFileBody

-- the lemma that a value of the program stands for
abbrev pub finite_lemma_of : Lemmas.FiniteLemma → FiniteLemma
finite_lemma_of (Steps l) = by_steps (lemma_of l)
finite_lemma_of (Cancel line variable outer inner) =
    by_cancel (record { line = line; variable = variable; outer = tree_of outer; inner = tree_of inner })

-- the proof
abbrev pub finite_proof_of : FiniteProof → FiniteProofBody
finite_proof_of p = record {
  hypothesis = p.hypothesis;
  goal = p.goal;
  lemmas = map finite_lemma_of p.lemmas;
}

-- and the body
abbrev pub finite_body_of : FiniteBody → FiniteFileBody
finite_body_of (Proof p) = proof (finite_proof_of p)
finite_body_of (Table t) = model (table t.size t.entries) (claims_of t.claims)
finite_body_of (Linear l) = model (linear (linear_in l)) (claims_of l.claims)

-- the lines of a lemma: its start and its steps, or the one that cancels
abbrev pub lines_of_lemma : FiniteLemma → List FiniteLine
lines_of_lemma (by_steps l) = body (proof_line (lemma l.start)) ∷ map (λ x. body (proof_line (step x))) l.steps
lines_of_lemma (by_cancel c) = cancel c ∷ []

abbrev pub finite_lemma_lines : List FiniteLemma → List FiniteLine
finite_lemma_lines [] = []
finite_lemma_lines (l ∷ ls) = lines_of_lemma l ++ finite_lemma_lines ls

-- the lines of a proof
abbrev pub finite_proof_lines : FiniteProofBody → List FiniteLine
finite_proof_lines p = body (proof_line (heading plain p.hypothesis p.goal)) ∷ finite_lemma_lines p.lemmas
