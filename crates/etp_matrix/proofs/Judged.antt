-- What is judged is right.
use Rattle.std.proofs.Common.{ℕ, List}
use Rattle.std.proofs.lemmas.List.Elements.{All-contains}
use Rattle.etp_theory.specs.Trees.{Equation}
use Rattle.etp_theory.specs.Reach.{refutes}
use Rattle.etp_theory.specs.RightFacts.{IsRightFact}
use Rattle.etp_theory.specs.Sound.{sound}
use Rattle.etp_matrix.specs.Magmas.{MatrixMagma, inside, times, IsMatrixMagma}
use Rattle.etp_matrix.specs.Sound.{closed_in}
use Rattle.etp_matrix.specs.Judgements.{LawHolds, LawFails, LawFailsBy, IsJudged}
use Rattle.etp_matrix.specs.declared.parts.MatrixFailure.{MatrixFailure}
use Rattle.etp_matrix.proofs.Failing.{fails}

-- a law that fails at a point fails
pub fails_by : (laws : List Equation) (g : MatrixMagma) (n : ℕ) (f : MatrixFailure) → LawFailsBy laws g n f → LawFails laws g n
fails_by laws g n f h = record { law = h.law; listed = h.listed; fails = fails g h.law f h.first }

-- no law of `fails` is derived from a law of `holds`
pub right_fact : (laws : List Equation) (g : MatrixMagma) → IsMatrixMagma g → (holds fails : List ℕ) → IsJudged laws g holds fails → IsRightFact laws (refutes holds fails)
right_fact laws g ok holds fails judged e f i j =
    let h = All-contains (LawHolds laws g) holds e judged.holding i in
    let k = All-contains (LawFails laws g) fails f judged.failing j in
    record {
      holding = h.law;
      failing = k.law;
      holding_listed = h.listed;
      failing_listed = k.listed;
      apart = λ d. k.fails (sound (inside g) (times g) (closed_in g ok) h.law h.holds d);
    }
