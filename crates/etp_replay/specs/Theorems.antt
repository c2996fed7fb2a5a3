-- A step has one finding, and a proof one verdict.
use Rattle.std.specs.Prelude.{◌≡◌, List, []}
use Rattle.etp_theory.specs.Trees.{Tree, Equation}
use Rattle.etp_theory.specs.Positions.{Side}
use Rattle.etp_theory.specs.Proofs.{Lemma, AreRightLemmas, IsValidProof}
use Rattle.etp_laws.specs.Listing.{IsTheList}
use Rattle.etp_laws.specs.LawLists.{LawList}
use Rattle.etp_replay.specs.Steps.{IsStepCheck}
use Rattle.etp_replay.specs.Replay.{IsFirstWrong}
use Rattle.etp_replay.specs.Validity.{IsOtherGoal, IsFirstOffence}
use Rattle.etp_replay.specs.declared.checking.StepCheck.{StepCheck}
use Rattle.etp_replay.specs.declared.refusal.ReplayRefusal.{ReplayRefusal}

pub record ReplayTheorems : Type 0 where
  -- a step is right, or fails in one way
  pub one_step_check : (e : Equation) (position : List Side) (s t : Tree) (found other : StepCheck)
      → IsStepCheck e position s t found → IsStepCheck e position s t other → found ≡ other
  -- a proof has one first wrong step, and none where all are right
  pub one_wrong : (hypothesis : Equation) (cites : List Equation) (lemmas : List Lemma) (r s : ReplayRefusal)
      → IsFirstWrong hypothesis cites lemmas r → IsFirstWrong hypothesis cites lemmas s → r ≡ s
  pub right_or_wrong : (hypothesis : Equation) (cites : List Equation) (lemmas : List Lemma) (r : ReplayRefusal)
      → IsFirstWrong hypothesis cites lemmas r → ¬ AreRightLemmas hypothesis cites [] lemmas
  -- another law than the goal is found in one way, and never where the goal is
  pub one_other : (l : LawList) (hypothesis goal : Equation) (cites : List Equation) (lemmas : List Lemma)
      (r s : ReplayRefusal) → IsTheList l.order l.equations → IsOtherGoal l hypothesis goal cites lemmas r
      → IsOtherGoal l hypothesis goal cites lemmas s → r ≡ s
  pub same_or_other : (l : LawList) (hypothesis goal : Equation) (cites : List Equation) (lemmas : List Lemma)
      (r : ReplayRefusal) → IsOtherGoal l hypothesis goal cites lemmas r
      → ¬ IsValidProof hypothesis goal cites lemmas
  -- so a proof has one first offence, and a valid one has none
  pub one_refusal : (l : LawList) (hypothesis goal : Equation) (cites : List Equation) (lemmas : List Lemma)
      (r s : ReplayRefusal) → IsTheList l.order l.equations → IsFirstOffence l hypothesis goal cites lemmas r
      → IsFirstOffence l hypothesis goal cites lemmas s → r ≡ s
  pub valid_or_refused : (l : LawList) (hypothesis goal : Equation) (cites : List Equation) (lemmas : List Lemma)
      (r : ReplayRefusal) → IsFirstOffence l hypothesis goal cites lemmas r
      → ¬ IsValidProof hypothesis goal cites lemmas
