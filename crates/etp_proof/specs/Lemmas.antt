-- Which steps and lemmas the values of the program stand for.
use Rattle.std.specs.Prelude.{map}
use Rattle.etp_theory.specs.Proofs as Theory
use Rattle.etp_term.specs.Terms.{tree_of}
use Rattle.etp_term.specs.Positions.{position_of}
use Rattle.etp_proof.specs.declared.proof.Step.{Step}
use Rattle.etp_proof.specs.declared.proof.Lemma.{Lemma}

abbrev pub step_of : Step → Theory.ProofStep
step_of x = record {
  to = tree_of x.to;
  line = x.line;
  cited = x.cited;
  reversed = x.reversed;
  position = position_of x.position;
}

abbrev pub lemma_of : Lemma → Theory.Lemma
lemma_of l = record { start = tree_of l.start; steps = map step_of l.steps }
