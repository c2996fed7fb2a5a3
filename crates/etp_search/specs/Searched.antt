-- What is answered to the question for a shortest proof between listed laws.
use Rattle.std.specs.Prelude.{◌≡◌, ℕ, ◌<◌, ◌≤◌, List, [], ◌∷◌, length, map, max}
use Rattle.etp_theory.specs.Trees.{Equation, bound}
use Rattle.etp_theory.specs.Proofs.{Lemma}
use Rattle.etp_proof.specs.Lemmas.{lemma_of}
use Rattle.etp_proof.specs.declared.proof.Proof.{Proof}
use Rattle.etp_replay.specs.Validity.{law_at}
use Rattle.etp_search.specs.Spaces.{Space}
use Rattle.etp_search.specs.Outcomes.{IsProofOver, IsShortest, IsSpent, IsUnreached}
use Rattle.etp_search.specs.declared.answer.Searched.{Searched}
use Rattle.etp_search.specs.declared.answer.Searched.TheVariants.{Found, Nothing, Budget}

-- by the hypothesis, over terms in the goal's variables with at most so many leaves
abbrev pub space_for : List Equation → ℕ → ℕ → ℕ → Space
space_for laws hypothesis goal leaves = record {
  law = law_at laws hypothesis;
  variables = max (bound (law_at laws goal).left) (bound (law_at laws goal).right);
  leaves = leaves;
}

-- the proof's one lemma is the shortest
pub record IsShortestProof (space : Space) (goal : Equation) (steps : ℕ) (proof : Proof)
    : Type 0 where
  pub lemma : Lemma
  pub alone : map lemma_of proof.lemmas ≡ lemma ∷ []
  pub shortest : IsShortest space goal steps lemma

-- the cause of each answer
abbrev pub IsAnswer : Space → Equation → ℕ → Searched → Type 0
IsAnswer space goal steps (Found proof) = IsShortestProof space goal steps proof
IsAnswer space goal steps Nothing = IsUnreached space goal steps
IsAnswer space goal steps (Budget level) = IsSpent space goal steps level

abbrev pub IfFound : Searched → (Proof → Type 0) → Type 0
IfFound (Found proof) P = P proof
IfFound Nothing P = Unit {0}
IfFound (Budget level) P = Unit {0}

abbrev pub IfNothing : Searched → Type 0 → Type 0
IfNothing (Found proof) P = Unit {0}
IfNothing Nothing P = P
IfNothing (Budget level) P = Unit {0}

-- the proof is from the one listed law to the other, and cites nothing
pub record IsNamed (hypothesis goal : ℕ) (proof : Proof) : Type 0 where
  pub from : proof.hypothesis ≡ hypothesis
  pub to : proof.goal ≡ goal
  pub cites : proof.cites ≡ []

-- no proof of one lemma over these terms has fewer steps
abbrev pub IsFewest : Space → Equation → Proof → Type 0
IsFewest space goal proof =
    (found : Lemma) → map lemma_of proof.lemmas ≡ found ∷ []
    → (l : Lemma) → IsProofOver space goal l → length found.steps ≤ length l.steps

-- every proof of one lemma over these terms has more steps
abbrev pub AllAreLonger : Space → Equation → ℕ → Type 0
AllAreLonger space goal steps = (l : Lemma) → IsProofOver space goal l → steps < length l.steps
