-- What the steps of a lemma may name.
use Rattle.std.specs.Prelude.{List, map}
use Rattle.std.specs.Borrow.{Bor}
use Rattle.etp_theory.specs.Trees.{Equation}
use Rattle.etp_theory.specs.Proofs.{conclusions}
use Rattle.etp_term.specs.Terms.{tree_of}
use Rattle.etp_term.specs.Laws.{equation_of}
use Rattle.etp_term.specs.declared.law.Law.{Law}
use Rattle.etp_proof.specs.Lemmas.{lemma_of}
use Rattle.etp_replay.specs.declared.checking.Sides.{Sides}
use Rattle.etp_replay.specs.declared.replaying.Lines.{Lines}

abbrev pub sides_of : Sides → Equation
sides_of sides = record { left = tree_of sides.left.now; right = tree_of sides.right.now }

abbrev pub cites_of : List (Bor Law) → List Equation
cites_of = map (λ law. equation_of law.now)

abbrev pub hypothesis_in : Lines → Equation
hypothesis_in lines = equation_of lines.hypothesis.now

abbrev pub cites_in : Lines → List Equation
cites_in lines = cites_of lines.cites.now

abbrev pub earlier_in : Lines → List Equation
earlier_in lines = conclusions (map lemma_of lines.earlier.now)
