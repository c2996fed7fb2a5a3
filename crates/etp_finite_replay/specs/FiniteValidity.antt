-- When a finite proof of listed laws is valid, and what its refusal says.
use Rattle.std.specs.Prelude.{◌≡◌, ◌-◌, ◌⊎◌, List, [], Some, length, slice_get}
use Rattle.etp_theory.specs.Trees.{Equation}
use Rattle.etp_laws.specs.LawLists.{LawList}
use Rattle.etp_replay.specs.Validity.{law_at, IsOtherLaw}
use Rattle.etp_replay.specs.declared.refusal.ReplayRefusal.{ReplayRefusal}
use Rattle.etp_cancel.specs.Cancelling.{FiniteLemma, finite_conclusion, AreRightFiniteLemmas, IsFinitelyValid}
use Rattle.etp_finite_body.specs.FiniteBodies.{FiniteProofBody}
use Rattle.etp_finite_replay.specs.FiniteReplay.{IsFirstWrongLemma}
use Rattle.etp_finite_replay.specs.declared.refusal.FiniteReplayRefusal.{FiniteReplayRefusal}
use Rattle.etp_finite_replay.specs.declared.refusal.FiniteReplayRefusal.TheVariants.{Replay, NoMemory}

-- the proof is valid with the laws of its numbers
abbrev pub IsValidFinite : List Equation → FiniteProofBody → Type 0
IsValidFinite laws p = IsFinitelyValid (law_at laws p.hypothesis) (law_at laws p.goal) p.lemmas

-- all lemmas are right, and the last one concludes another law than the goal
pub record IsOtherFiniteGoal (l : LawList) (hypothesis goal : Equation) (lemmas : List FiniteLemma)
    (r : ReplayRefusal) : Type 0 where
  pub right : AreRightFiniteLemmas hypothesis [] lemmas
  pub final : FiniteLemma
  pub last : slice_get lemmas (length lemmas - 1) ≡ Some final
  pub other : IsOtherLaw l (finite_conclusion final) goal r

-- the first offence: a wrong lemma, else another goal
abbrev pub IsFiniteOffence : LawList → Equation → Equation → List FiniteLemma → FiniteReplayRefusal → Type 0
IsFiniteOffence l hypothesis goal lemmas r =
    IsFirstWrongLemma hypothesis lemmas r
    ⊎ ((t : ReplayRefusal) × (r ≡ Replay t) × IsOtherFiniteGoal l hypothesis goal lemmas t)

-- want of memory, or the first offence
abbrev pub IsFiniteRefused : LawList → FiniteProofBody → FiniteReplayRefusal → Type 0
IsFiniteRefused l p r =
    (r ≡ NoMemory)
    ⊎ IsFiniteOffence l (law_at l.equations p.hypothesis) (law_at l.equations p.goal) p.lemmas r
