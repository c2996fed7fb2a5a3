-- The first wrong lemma of a finite proof.
use Rattle.std.specs.Prelude.{◌≡◌, ◌+◌, ℕ, List, [], Some, None, slice_get, take}
use Rattle.etp_theory.specs.Trees.{Equation}
use Rattle.etp_theory.specs.Proofs.{line_equation}
use Rattle.etp_replay.specs.Replay.{IsLemmaRefused}
use Rattle.etp_replay.specs.declared.refusal.ReplayRefusal.{ReplayRefusal}
use Rattle.etp_replay.specs.declared.refusal.ReplayRefusal.TheVariants.{Reference}
use Rattle.etp_cancel.specs.Cancelling.{Cancel, IsCancelledBy, FiniteLemma, by_steps, by_cancel, finite_conclusions, AreRightFiniteLemmas}
use Rattle.etp_finite_replay.specs.declared.refusal.FiniteReplayRefusal.{FiniteReplayRefusal}
use Rattle.etp_finite_replay.specs.declared.refusal.FiniteReplayRefusal.TheVariants.{Replay, CancelDiffers}

-- a line that cancels is step 0 of its lemma, and names no earlier line
abbrev pub IsCancelMissing : Equation → List Equation → Cancel → ℕ → ReplayRefusal → Type 0
IsCancelMissing hypothesis earlier c lemma (Reference l step line) =
    (l ≡ lemma) × (step ≡ 0) × (line ≡ c.line) × (line_equation hypothesis earlier c.line ≡ None)
IsCancelMissing hypothesis earlier c lemma _ = ⊥

-- the equation that it names isn't of its form
pub record IsCancelOther (hypothesis : Equation) (earlier : List Equation) (c : Cancel) : Type 0 where
  pub equation : Equation
  pub named : line_equation hypothesis earlier c.line ≡ Some equation
  pub other : IsCancelledBy c equation → ⊥

-- the refusal is the one of this lemma: its first wrong step, or its line that cancels
abbrev pub IsFiniteLemmaRefused : Equation → List Equation → FiniteLemma → ℕ → FiniteReplayRefusal → Type 0
IsFiniteLemmaRefused hypothesis earlier (by_steps l) lemma (Replay r) =
    IsLemmaRefused hypothesis [] earlier l lemma r
IsFiniteLemmaRefused hypothesis earlier (by_cancel c) lemma (Replay r) =
    IsCancelMissing hypothesis earlier c lemma r
IsFiniteLemmaRefused hypothesis earlier (by_cancel c) lemma (CancelDiffers l) =
    (l ≡ lemma) × IsCancelOther hypothesis earlier c
IsFiniteLemmaRefused hypothesis earlier _ lemma _ = ⊥

-- all lemmas before one are right, and that one is refused
pub record IsFirstWrongLemma (hypothesis : Equation) (lemmas : List FiniteLemma)
    (r : FiniteReplayRefusal) : Type 0 where
  pub place : ℕ
  pub lemma : FiniteLemma
  pub stands : slice_get lemmas place ≡ Some lemma
  pub before : AreRightFiniteLemmas hypothesis [] (take place lemmas)
  pub refused : IsFiniteLemmaRefused hypothesis (finite_conclusions (take place lemmas)) lemma
      (place + 1) r
