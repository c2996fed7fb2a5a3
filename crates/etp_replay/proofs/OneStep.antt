-- A step has one finding, and a step that is refused one refusal.
use Rattle.std.proofs.Common.{◌≡◌, ◌⊎◌, inl, inr, ℕ, cond, List, Option, Some, None, IsSome, refl, sym, ap, ap₂, ◌∙◌, subst}
use Rattle.etp_theory.specs.Trees.{Tree, Equation}
use Rattle.etp_theory.specs.Positions.{Side, sub_at}
use Rattle.etp_theory.specs.Proofs.{ProofStep, as_read, IsStepBy, IsRightStep}
use Rattle.etp_replay.specs.Steps.{IsInBoth, IsStepCheck}
use Rattle.etp_replay.specs.Replay.{IsMissing, IsFoundRefused, IsStepRefused, missing, wrong}
use Rattle.etp_replay.specs.declared.checking.StepCheck.{StepCheck}
use Rattle.etp_replay.specs.declared.checking.StepCheck.TheVariants as Check
use Rattle.etp_replay.specs.declared.refusal.ReplayRefusal.{ReplayRefusal}
use Rattle.etp_replay.specs.declared.refusal.ReplayRefusal.TheVariants.{Reference, NoPlace, OutsideChanged, NoMatch, GoalDiffers, Citation, NoMemory}

pub some_none : {A X : Type 0} (o : Option A) (x : A) → o ≡ Some x → o ≡ None → X
some_none o x h k = let f : Some x ≡ None = sym h ∙ k in absurd (cc)

is_some_none : {X : Type 0} (o : Option Tree) → IsSome o → o ≡ None → X
is_some_none None h k = absurd (cc)
is_some_none (Some u) h k = some_none (Some u) u refl k

pub some_is : {A : Type 0} (o : Option A) (x y : A) → o ≡ Some x → o ≡ Some y → x ≡ y
some_is o x y h k = let f : Some x ≡ Some y = sym h ∙ k in cc

module _ (e : Equation) (p : List Side) (s t : Tree) where
  right_in_both : IsStepBy e p s t → IsInBoth p s t
  right_in_both r = (subst (λ (z : Option Tree). IsSome z) (sym r.before) refl, subst (λ (z : Option Tree). IsSome z) (sym r.after) refl)

  out_of_one : {X : Type 0} → IsInBoth p s t → (sub_at p s ≡ None) ⊎ (sub_at p t ≡ None) → X
  out_of_one b (inl h) = is_some_none (sub_at p s) b.0 h
  out_of_one b (inr h) = is_some_none (sub_at p t) b.1 h

  pub one_step_check : (c d : StepCheck) → IsStepCheck e p s t c → IsStepCheck e p s t d → c ≡ d
  one_step_check Check.Right Check.Right h k = refl
  one_step_check Check.Right Check.NoPlace h k = out_of_one (right_in_both h) k
  one_step_check Check.Right Check.OutsideChanged h k = absurd (k.1 h.outside)
  one_step_check Check.Right Check.NoMatch h k = absurd (k.2 h.by h.before h.after)
  one_step_check Check.NoPlace Check.Right h k = out_of_one (right_in_both k) h
  one_step_check Check.NoPlace Check.NoPlace h k = refl
  one_step_check Check.NoPlace Check.OutsideChanged h k = out_of_one k.0 h
  one_step_check Check.NoPlace Check.NoMatch h k = out_of_one k.0 h
  one_step_check Check.OutsideChanged Check.Right h k = absurd (h.1 k.outside)
  one_step_check Check.OutsideChanged Check.NoPlace h k = out_of_one h.0 k
  one_step_check Check.OutsideChanged Check.OutsideChanged h k = refl
  one_step_check Check.OutsideChanged Check.NoMatch h k = absurd (h.1 k.1)
  one_step_check Check.NoMatch Check.Right h k = absurd (h.2 k.by k.before k.after)
  one_step_check Check.NoMatch Check.NoPlace h k = out_of_one h.0 k
  one_step_check Check.NoMatch Check.OutsideChanged h k = absurd (k.1 h.1)
  one_step_check Check.NoMatch Check.NoMatch h k = refl

-- the refusal of a finding; of a step that is right, any
refusal_of : ℕ → ℕ → StepCheck → ReplayRefusal
refusal_of lemma step Check.Right = NoMemory
refusal_of lemma step Check.NoPlace = NoPlace lemma step
refusal_of lemma step Check.OutsideChanged = OutsideChanged lemma step
refusal_of lemma step Check.NoMatch = NoMatch lemma step

module _ (lemma step : ℕ) where
  found_is : (c : StepCheck) (r : ReplayRefusal) → IsFoundRefused lemma step c r → r ≡ refusal_of lemma step c
  unfolding refusal_of
  found_is c (NoPlace l s) i = ap₂ NoPlace i.0 i.1 ∙ sym (ap (refusal_of lemma step) i.2)
  found_is c (OutsideChanged l s) i = ap₂ OutsideChanged i.0 i.1 ∙ sym (ap (refusal_of lemma step) i.2)
  found_is c (NoMatch l s) i = ap₂ NoMatch i.0 i.1 ∙ sym (ap (refusal_of lemma step) i.2)
  found_is c (Reference l s n) i = absurd i
  found_is c (Citation l s n) i = absurd i
  found_is c (GoalDiffers n) i = absurd i
  found_is c NoMemory i = absurd i

  found_wrong : {X : Type 0} (c : StepCheck) (r : ReplayRefusal) → IsFoundRefused lemma step c r → c ≡ Check.Right → X
  found_wrong c (NoPlace l s) i e = let f : Check.Right ≡ Check.NoPlace = sym e ∙ i.2 in absurd (cc)
  found_wrong c (OutsideChanged l s) i e = let f : Check.Right ≡ Check.OutsideChanged = sym e ∙ i.2 in absurd (cc)
  found_wrong c (NoMatch l s) i e = let f : Check.Right ≡ Check.NoMatch = sym e ∙ i.2 in absurd (cc)
  found_wrong c (Reference l s n) i e = absurd i
  found_wrong c (Citation l s n) i e = absurd i
  found_wrong c (GoalDiffers n) i e = absurd i
  found_wrong c NoMemory i e = absurd i

  missing_is : (x : ProofStep) (r : ReplayRefusal) → IsMissing lemma step x r → r ≡ cond x.cited (Citation lemma step x.line) (Reference lemma step x.line)
  missing_is x (Reference l s n) i =
      let f : Reference l s n ≡ Reference lemma step x.line = cc (i.0, i.1, i.2) in
      f ∙ sym (ap (λ b. cond b (Citation lemma step x.line) (Reference lemma step x.line)) i.3)
  missing_is x (Citation l s n) i =
      let f : Citation l s n ≡ Citation lemma step x.line = cc (i.0, i.1, i.2) in
      f ∙ sym (ap (λ b. cond b (Citation lemma step x.line) (Reference lemma step x.line)) i.3)
  missing_is x (NoPlace l s) i = absurd i
  missing_is x (OutsideChanged l s) i = absurd i
  missing_is x (NoMatch l s) i = absurd i
  missing_is x (GoalDiffers n) i = absurd i
  missing_is x NoMemory i = absurd i

module _ (h : Equation) (cites earlier : List Equation) (t : Tree) (x : ProofStep) (a b : ℕ) where
  same_found : (e f : Equation) (c d : StepCheck) → e ≡ f → IsStepCheck (as_read x.reversed e) x.position t x.to c
      → IsStepCheck (as_read x.reversed f) x.position t x.to d → c ≡ d
  same_found e f c d q k l =
      one_step_check (as_read x.reversed f) x.position t x.to c d (subst (λ z. IsStepCheck (as_read x.reversed z) x.position t x.to c) q k) l

  pub one_step_refused : (r s : ReplayRefusal) → IsStepRefused h cites earlier t x a b r → IsStepRefused h cites earlier t x a b s → r ≡ s
  one_step_refused r s (missing n m) (missing o k) = missing_is a b x r m ∙ sym (missing_is a b x s k)
  one_step_refused r s (missing n m) (wrong e c o k i) = some_none _ e o n
  one_step_refused r s (wrong e c o k i) (missing n m) = some_none _ e o n
  one_step_refused r s (wrong e c n k i) (wrong f d o l j) =
      found_is a b c r i ∙ ap (refusal_of a b) (same_found e f c d (some_is _ e f n o) k l) ∙ sym (found_is a b d s j)

  pub step_not_right : {X : Type 0} (r : ReplayRefusal) → IsStepRefused h cites earlier t x a b r → IsRightStep h cites earlier t x → X
  step_not_right r (missing n m) k = some_none _ k.equation k.named n
  step_not_right r (wrong e c n k i) l =
      found_wrong a b c r i (same_found e l.equation c Check.Right (some_is _ e l.equation n l.named) k l.right)
