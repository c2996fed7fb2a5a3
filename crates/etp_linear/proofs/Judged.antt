-- What is judged is right.
use Rattle.std.proofs.Common.{ℕ, List}
use Rattle.std.proofs.lemmas.List.Elements.{All-contains}
use Rattle.etp_theory.specs.Trees.{Equation}
use Rattle.etp_theory.specs.Reach.{refutes}
use Rattle.etp_theory.specs.RightFacts.{IsRightFact}
use Rattle.etp_theory.specs.Sound.{sound}
use Rattle.etp_forms.proofs.Values as Forms
use Rattle.etp_linear.specs.Magmas.{LinearMagma, inside, times, IsLinearMagma}
use Rattle.etp_linear.specs.Values.{affine}
use Rattle.etp_linear.specs.Judgements.{LawHolds, LawFails, LawFailsBy, IsJudged}
use Rattle.etp_linear.specs.declared.parts.LinearFailure.{LinearFailure}
use Rattle.etp_linear.proofs.Scalars.{linear}
use Rattle.etp_linear.proofs.Walks.{in_carrier}
use Rattle.etp_linear.proofs.Failing.{fails}

-- a law that fails at a point fails
pub fails_by : (laws : List Equation) (l : LinearMagma) (n : ℕ) (f : LinearFailure) → LawFailsBy laws l n f → LawFails laws l n
fails_by laws l n f h = record { law = h.law; listed = h.listed; fails = fails l h.law f h.first }

-- no law of `fails` is derived from a law of `holds`
pub right_fact : (laws : List Equation) (l : LinearMagma) → IsLinearMagma l → (holds fails : List ℕ) → IsJudged laws l holds fails → IsRightFact laws (refutes holds fails)
right_fact laws l ok holds fails judged e f i j =
    let h = All-contains (LawHolds laws l) holds e judged.holding i in
    let g = All-contains (LawFails laws l) fails f judged.failing j in
    record {
      holding = h.law;
      failing = g.law;
      holding_listed = h.listed;
      failing_listed = g.listed;
      apart = λ d. g.fails (sound (inside l.ring) (times l) (Forms.closed (inside l.ring) (times l) (affine l) (linear l ok.modulus (in_carrier l.ring l.c ok.c_in_range))) h.law h.holds d);
    }
