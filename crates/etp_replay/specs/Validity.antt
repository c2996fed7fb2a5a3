-- When a proof of listed laws is valid, and what its refusal says.
use Rattle.std.specs.Prelude.{◌≡◌, ◌-◌, ◌⊎◌, ℕ, List, [], All, Some, IsSome, length, map, slice_get, unwrap_or}
use Rattle.etp_theory.specs.Trees.{Equation}
use Rattle.etp_theory.specs.Sameness.{Same}
use Rattle.etp_theory.specs.Proofs.{Lemma, conclusion, AreRightLemmas, IsValidProof}
use Rattle.etp_laws.specs.Listing.{reflexive_law}
use Rattle.etp_theory.specs.LawNumbers.{law_numbered}
use Rattle.etp_laws.specs.LawLists.{LawList}
use Rattle.etp_laws.specs.NumberAnswers.{IsNumberAnswer}
use Rattle.etp_proof.specs.Lemmas.{lemma_of}
use Rattle.etp_replay.specs.Replay.{IsFirstWrong}
use Rattle.etp_proof.specs.declared.proof.Proof.{Proof}
use Rattle.etp_replay.specs.declared.refusal.ReplayRefusal.{ReplayRefusal}
use Rattle.etp_replay.specs.declared.refusal.ReplayRefusal.TheVariants.{GoalDiffers, NoMemory}

-- law n; for a number that isn't listed, `x = x`
abbrev pub law_at : List Equation → ℕ → Equation
law_at laws n = unwrap_or (law_numbered laws n) reflexive_law

-- the proof is valid with the laws of the cited numbers: all numbers are listed, one is cited for each
-- cite, every step is right, and the last lemma concludes the goal
pub record IsValid (laws : List Equation) (proof : Proof) (cited : List ℕ) : Type 0 where
  pub hypothesis_listed : IsSome (law_numbered laws proof.hypothesis)
  pub goal_listed : IsSome (law_numbered laws proof.goal)
  pub as_many : length cited ≡ length proof.cites
  pub cited_listed : All (λ n. IsSome (law_numbered laws n)) cited
  pub right : IsValidProof (law_at laws proof.hypothesis) (law_at laws proof.goal)
      (map (law_at laws) cited) (map lemma_of proof.lemmas)

-- another law than the goal was found, and the refusal has its number or why it has none
abbrev pub IsOtherLaw : LawList → Equation → Equation → ReplayRefusal → Type 0
IsOtherLaw l found goal (GoalDiffers number) = IsNumberAnswer l found number × (Same found goal → ⊥)
IsOtherLaw l found goal _ = ⊥

-- all steps are right, and the last lemma concludes another law than the goal
pub record IsOtherGoal (l : LawList) (hypothesis goal : Equation) (cites : List Equation)
    (lemmas : List Lemma) (r : ReplayRefusal) : Type 0 where
  pub right : AreRightLemmas hypothesis cites [] lemmas
  pub final : Lemma
  pub last : slice_get lemmas (length lemmas - 1) ≡ Some final
  pub other : IsOtherLaw l (conclusion final) goal r

-- the first offence: a wrong step, else another goal
abbrev pub IsFirstOffence : LawList → Equation → Equation → List Equation → List Lemma → ReplayRefusal → Type 0
IsFirstOffence l hypothesis goal cites lemmas r =
    IsFirstWrong hypothesis cites lemmas r ⊎ IsOtherGoal l hypothesis goal cites lemmas r

-- want of memory, or the first offence
abbrev pub IsRefused : LawList → Proof → List ℕ → ReplayRefusal → Type 0
IsRefused l proof cited r =
    (r ≡ NoMemory)
    ⊎ IsFirstOffence l (law_at l.equations proof.hypothesis) (law_at l.equations proof.goal)
    (map (law_at l.equations) cited) (map lemma_of proof.lemmas) r
