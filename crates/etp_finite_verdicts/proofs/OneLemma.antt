-- A lemma of a finite proof has one refusal, and a right one none.
use Rattle.std.proofs.Common.{◌≡◌, ◌⊎◌, inl, inr, ℕ, zero, suc, ◌+◌, ◌<◌, List, [], ◌∷◌, take, Some, None, slice_get, refl, sym, ap, ◌∙◌, subst, arith}
use Rattle.std.proofs.lemmas.Bool.{cases_order}
use Rattle.etp_theory.specs.Trees.{Tree, Equation}
use Rattle.etp_theory.specs.Proofs.{ProofStep, Lemma, last_term, line_equation, IsRightStep, AreRightSteps}
use Rattle.etp_replay.specs.Replay.{IsStepRefused, IsLemmaRefused}
use Rattle.etp_replay.specs.declared.refusal.ReplayRefusal.{ReplayRefusal}
use Rattle.etp_replay.specs.declared.refusal.ReplayRefusal.TheVariants.{Reference, NoPlace, OutsideChanged, NoMatch, GoalDiffers, Citation, NoMemory}
use Rattle.etp_replay.proofs.OneStep.{some_none, some_is, one_step_refused, step_not_right}
use Rattle.etp_cancel.specs.Cancelling.{Cancel, IsCancelledBy, FiniteLemma, by_steps, by_cancel, IsRightFiniteLemma}
use Rattle.etp_finite_replay.specs.FiniteReplay.{IsCancelMissing, IsFiniteLemmaRefused}
use Rattle.etp_finite_replay.specs.declared.refusal.FiniteReplayRefusal.{FiniteReplayRefusal}
use Rattle.etp_finite_replay.specs.declared.refusal.FiniteReplayRefusal.TheVariants as Finite

module _ (h : Equation) (earlier : List Equation) where
  first_steps : (t : Tree) (xs : List ProofStep) (n : ℕ) → AreRightSteps h [] earlier t xs → AreRightSteps h [] earlier t (take n xs)
  first_steps t xs zero r = tt
  first_steps t [] (suc n) r = tt
  first_steps t (x ∷ xs) (suc n) r = (r.0, first_steps x.to xs n r.1)

  -- a step before a place up to which all are right
  step_before : (t : Tree) (xs : List ProofStep) (i j : ℕ) (x : ProofStep) → i < j → slice_get xs i ≡ Some x
      → AreRightSteps h [] earlier t (take j xs) → IsRightStep h [] earlier (last_term t (take i xs)) x
  step_before t xs i zero x k q r = absurd (omega (arith, k))
  step_before t [] i (suc j) x k q r = absurd (cc)
  step_before t (y ∷ ys) zero (suc j) x k q r = subst (IsRightStep h [] earlier t) (let f : Some y ≡ Some x = q in let g : y ≡ x = cc in g) r.0
  step_before t (y ∷ ys) (suc i) (suc j) x k q r = step_before y.to ys i j x (omega (arith, k)) q r.1

  module _ (l : Lemma) (a : ℕ) where
    not_before : {X : Type 0} (r : ReplayRefusal) (w : IsLemmaRefused h [] earlier l a r) (j : ℕ) → w.place < j → AreRightSteps h [] earlier l.start (take j l.steps) → X
    not_before r w j k f =
        step_not_right h [] earlier (last_term l.start (take w.place l.steps)) w.step a (w.place + 1) r w.refused (step_before l.start l.steps w.place j w.step k w.stands f)

    steps_not_right : {X : Type 0} (r : ReplayRefusal) → IsLemmaRefused h [] earlier l a r → AreRightSteps h [] earlier l.start l.steps → X
    steps_not_right r w f = not_before r w (suc w.place) (omega arith) (first_steps l.start l.steps (suc w.place) f)

    one_of_steps : (r s : ReplayRefusal) → IsLemmaRefused h [] earlier l a r → IsLemmaRefused h [] earlier l a s → r ≡ s
    one_of_steps r s w v = go (cases_order w.place v.place)
      where
        go : (w.place ≡ v.place) ⊎ ((w.place < v.place) ⊎ (v.place < w.place)) → r ≡ s
        go (inr (inl k)) = not_before r w v.place k v.before
        go (inr (inr k)) = not_before s v w.place k w.before
        go (inl k) =
            let step : v.step ≡ w.step = some_is (slice_get l.steps v.place) v.step w.step v.stands (ap (slice_get l.steps) (sym k) ∙ w.stands) in
            let here = subst (λ (n : ℕ). IsStepRefused h [] earlier (last_term l.start (take n l.steps)) v.step a (n + 1) s) (sym k) v.refused in
            let same = subst (λ (x : ProofStep). IsStepRefused h [] earlier (last_term l.start (take w.place l.steps)) x a (w.place + 1) s) step here in
            one_step_refused h [] earlier (last_term l.start (take w.place l.steps)) w.step a (w.place + 1) r s w.refused same

  module _ (c : Cancel) (a : ℕ) where
    missing : (r : ReplayRefusal) → IsCancelMissing h earlier c a r → (r ≡ Reference a 0 c.line) × (line_equation h earlier c.line ≡ None)
    missing (Reference l step line) m = (rw (m.0, m.1, m.2) refl, m.3)
    missing (Citation l step n) m = absurd m
    missing (NoPlace l step) m = absurd m
    missing (OutsideChanged l step) m = absurd m
    missing (NoMatch l step) m = absurd m
    missing (GoalDiffers n) m = absurd m
    missing NoMemory m = absurd m

pub lemma_not_right : {X : Type 0} (h : Equation) (earlier : List Equation) (l : FiniteLemma) (a : ℕ) (r : FiniteReplayRefusal)
    → IsFiniteLemmaRefused h earlier l a r → IsRightFiniteLemma h earlier l → X
lemma_not_right h earlier (by_steps l) a (Finite.Replay r) w f = steps_not_right h earlier l a r w f
lemma_not_right h earlier (by_steps l) a (Finite.CancelDiffers m) w f = absurd w
lemma_not_right h earlier (by_steps l) a Finite.NoMemory w f = absurd w
lemma_not_right h earlier (by_cancel c) a (Finite.Replay r) w f = some_none _ f.equation f.named (missing h earlier c a r w).1
lemma_not_right h earlier (by_cancel c) a (Finite.CancelDiffers m) w f =
    absurd (w.1.other (subst (IsCancelledBy c) (some_is _ f.equation w.1.equation f.named w.1.named) f.form))
lemma_not_right h earlier (by_cancel c) a Finite.NoMemory w f = absurd w

pub one_lemma_refused : (h : Equation) (earlier : List Equation) (l : FiniteLemma) (a : ℕ) (r s : FiniteReplayRefusal)
    → IsFiniteLemmaRefused h earlier l a r → IsFiniteLemmaRefused h earlier l a s → r ≡ s
one_lemma_refused h earlier (by_steps l) a (Finite.Replay r) (Finite.Replay s) w v = ap Finite.Replay (one_of_steps h earlier l a r s w v)
one_lemma_refused h earlier (by_steps l) a (Finite.Replay r) (Finite.CancelDiffers n) w v = absurd v
one_lemma_refused h earlier (by_steps l) a (Finite.Replay r) Finite.NoMemory w v = absurd v
one_lemma_refused h earlier (by_steps l) a (Finite.CancelDiffers m) s w v = absurd w
one_lemma_refused h earlier (by_steps l) a Finite.NoMemory s w v = absurd w
one_lemma_refused h earlier (by_cancel c) a (Finite.Replay r) (Finite.Replay s) w v =
    ap Finite.Replay ((missing h earlier c a r w).0 ∙ sym (missing h earlier c a s v).0)
one_lemma_refused h earlier (by_cancel c) a (Finite.Replay r) (Finite.CancelDiffers n) w v = some_none _ v.1.equation v.1.named (missing h earlier c a r w).1
one_lemma_refused h earlier (by_cancel c) a (Finite.Replay r) Finite.NoMemory w v = absurd v
one_lemma_refused h earlier (by_cancel c) a (Finite.CancelDiffers m) (Finite.Replay s) w v = some_none _ w.1.equation w.1.named (missing h earlier c a s v).1
one_lemma_refused h earlier (by_cancel c) a (Finite.CancelDiffers m) (Finite.CancelDiffers n) w v = ap Finite.CancelDiffers (w.0 ∙ sym v.0)
one_lemma_refused h earlier (by_cancel c) a (Finite.CancelDiffers m) Finite.NoMemory w v = absurd v
one_lemma_refused h earlier (by_cancel c) a Finite.NoMemory s w v = absurd w
