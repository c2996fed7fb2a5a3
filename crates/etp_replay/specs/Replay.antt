-- The first offence of a proof.
use Rattle.std.specs.Prelude.{◌≡◌, ◌+◌, ℕ, true, false, List, [], Some, None, slice_get, take}
use Rattle.etp_theory.specs.Trees.{Tree, Equation}
use Rattle.etp_theory.specs.Proofs.{ProofStep, Lemma, last_term, conclusions, named_equation, as_read, AreRightSteps, AreRightLemmas}
use Rattle.etp_replay.specs.Steps.{IsStepCheck}
use Rattle.etp_replay.specs.declared.checking.StepCheck.{StepCheck}
use Rattle.etp_replay.specs.declared.checking.StepCheck.TheVariants as Check
use Rattle.etp_replay.specs.declared.refusal.ReplayRefusal.{ReplayRefusal}
use Rattle.etp_replay.specs.declared.refusal.ReplayRefusal.TheVariants.{Reference, NoPlace, OutsideChanged, NoMatch, Citation}

-- the refusal names the step's place, its number, and its line or its cite
abbrev pub IsMissing : ℕ → ℕ → ProofStep → ReplayRefusal → Type 0
IsMissing lemma step x (Reference l s line) =
    (l ≡ lemma) × (s ≡ step) × (line ≡ x.line) × (x.cited ≡ false)
IsMissing lemma step x (Citation l s cite) =
    (l ≡ lemma) × (s ≡ step) × (cite ≡ x.line) × (x.cited ≡ true)
IsMissing lemma step x _ = ⊥

-- the refusal is the one of this finding, at this place
abbrev pub IsFoundRefused : ℕ → ℕ → StepCheck → ReplayRefusal → Type 0
IsFoundRefused lemma step found (NoPlace l s) = (l ≡ lemma) × (s ≡ step) × (found ≡ Check.NoPlace)
IsFoundRefused lemma step found (OutsideChanged l s) =
    (l ≡ lemma) × (s ≡ step) × (found ≡ Check.OutsideChanged)
IsFoundRefused lemma step found (NoMatch l s) = (l ≡ lemma) × (s ≡ step) × (found ≡ Check.NoMatch)
IsFoundRefused lemma step found _ = ⊥

-- the step names no equation, or it is tested by the one that it names and fails
pub data IsStepRefused (hypothesis : Equation) (cites earlier : List Equation) (s : Tree)
    (x : ProofStep) (lemma step : ℕ) (r : ReplayRefusal) : Type 0 where
  missing : named_equation hypothesis cites earlier x ≡ None → IsMissing lemma step x r
      → IsStepRefused hypothesis cites earlier s x lemma step r
  wrong : (e : Equation) (found : StepCheck) → named_equation hypothesis cites earlier x ≡ Some e
      → IsStepCheck (as_read x.reversed e) x.position s x.to found
      → IsFoundRefused lemma step found r
      → IsStepRefused hypothesis cites earlier s x lemma step r

-- all steps before one are right, and that one is refused
pub record IsLemmaRefused (hypothesis : Equation) (cites earlier : List Equation) (l : Lemma)
    (lemma : ℕ) (r : ReplayRefusal) : Type 0 where
  pub place : ℕ
  pub step : ProofStep
  pub stands : slice_get l.steps place ≡ Some step
  pub before : AreRightSteps hypothesis cites earlier l.start (take place l.steps)
  pub refused : IsStepRefused hypothesis cites earlier (last_term l.start (take place l.steps)) step
      lemma (place + 1) r

-- all lemmas before one are right, and a step of that one is refused
pub record IsFirstWrong (hypothesis : Equation) (cites : List Equation) (lemmas : List Lemma)
    (r : ReplayRefusal) : Type 0 where
  pub place : ℕ
  pub lemma : Lemma
  pub stands : slice_get lemmas place ≡ Some lemma
  pub before : AreRightLemmas hypothesis cites [] (take place lemmas)
  pub refused : IsLemmaRefused hypothesis cites (conclusions (take place lemmas)) lemma (place + 1) r
