-- A proof has one first offence, and a valid proof none.
use Rattle.std.proofs.Common.{◌≡◌, ◌⊎◌, inl, inr, ℕ, zero, suc, ◌+◌, ◌<◌, List, [], ◌∷◌, ◌++◌, take, Some, slice_get, refl, sym, ap, ◌∙◌, subst, arith, append_assoc, append-nil}
use Rattle.std.proofs.lemmas.Bool.{cases_order}
use Rattle.etp_theory.specs.Trees.{Tree, Equation}
use Rattle.etp_theory.specs.Sameness.{Same}
use Rattle.etp_theory.specs.Proofs.{ProofStep, Lemma, last_term, conclusion, conclusions, IsRightStep, AreRightSteps, AreRightLemmas, IsValidProof}
use Rattle.etp_laws.specs.Listing.{IsTheList}
use Rattle.etp_laws.specs.LawLists.{LawList, HasNumber, IsTrivial}
use Rattle.etp_laws.specs.NumberAnswers.{IsNumberAnswer}
use Rattle.etp_laws.specs.declared.laws.Numbered.{Numbered}
use Rattle.etp_laws.specs.declared.laws.Numbered.TheVariants.{Is, Trivial, TooManyOps}
use Rattle.etp_laws.proofs.DualNumbers.{one_number_of}
use Rattle.etp_replay.specs.Replay.{IsStepRefused, IsLemmaRefused, IsFirstWrong}
use Rattle.etp_replay.specs.Validity.{IsOtherLaw, IsOtherGoal, IsFirstOffence}
use Rattle.etp_replay.specs.declared.refusal.ReplayRefusal.{ReplayRefusal}
use Rattle.etp_replay.specs.declared.refusal.ReplayRefusal.TheVariants.{Reference, NoPlace, OutsideChanged, NoMatch, GoalDiffers, Citation, NoMemory}
use Rattle.etp_replay.proofs.OneStep.{some_is, one_step_refused, step_not_right}

module _ (h : Equation) (cites : List Equation) where
  first_steps : (earlier : List Equation) (t : Tree) (xs : List ProofStep) (n : ℕ) → AreRightSteps h cites earlier t xs → AreRightSteps h cites earlier t (take n xs)
  first_steps earlier t xs zero r = tt
  first_steps earlier t [] (suc n) r = tt
  first_steps earlier t (x ∷ xs) (suc n) r = (r.0, first_steps earlier x.to xs n r.1)

  first_lemmas : (earlier : List Equation) (ls : List Lemma) (n : ℕ) → AreRightLemmas h cites earlier ls → AreRightLemmas h cites earlier (take n ls)
  first_lemmas earlier ls zero r = tt
  first_lemmas earlier [] (suc n) r = tt
  first_lemmas earlier (l ∷ ls) (suc n) r = (r.0, first_lemmas (earlier ++ conclusion l ∷ []) ls n r.1)

  -- a step before a place up to which all are right
  step_before : (earlier : List Equation) (t : Tree) (xs : List ProofStep) (i j : ℕ) (x : ProofStep) → i < j → slice_get xs i ≡ Some x
      → AreRightSteps h cites earlier t (take j xs) → IsRightStep h cites earlier (last_term t (take i xs)) x
  step_before earlier t xs i zero x k q r = absurd (omega (arith, k))
  step_before earlier t [] i (suc j) x k q r = absurd (cc)
  step_before earlier t (y ∷ ys) zero (suc j) x k q r = subst (IsRightStep h cites earlier t) (let f : Some y ≡ Some x = q in let g : y ≡ x = cc in g) r.0
  step_before earlier t (y ∷ ys) (suc i) (suc j) x k q r = step_before earlier y.to ys i j x (omega (arith, k)) q r.1

  lemma_before : (earlier : List Equation) (ls : List Lemma) (i j : ℕ) (l : Lemma) → i < j → slice_get ls i ≡ Some l
      → AreRightLemmas h cites earlier (take j ls) → AreRightSteps h cites (earlier ++ conclusions (take i ls)) l.start l.steps
  lemma_before earlier ls i zero l k q r = absurd (omega (arith, k))
  lemma_before earlier [] i (suc j) l k q r = absurd (cc)
  lemma_before earlier (m ∷ ms) zero (suc j) l k q r =
      subst (λ (n : Lemma). AreRightSteps h cites (earlier ++ []) n.start n.steps) (let f : Some m ≡ Some l = q in let g : m ≡ l = cc in g)
      (subst (λ (e : List Equation). AreRightSteps h cites e m.start m.steps) (sym (append-nil earlier)) r.0)
  lemma_before earlier (m ∷ ms) (suc i) (suc j) l k q r =
      subst (λ (e : List Equation). AreRightSteps h cites e l.start l.steps) (append_assoc earlier (conclusion m ∷ []) (conclusions (take i ms)))
      (lemma_before (earlier ++ conclusion m ∷ []) ms i j l (omega (arith, k)) q r.1)

  module _ (earlier : List Equation) (l : Lemma) (a : ℕ) where
    not_before : {X : Type 0} (r : ReplayRefusal) (w : IsLemmaRefused h cites earlier l a r) (j : ℕ) → w.place < j → AreRightSteps h cites earlier l.start (take j l.steps) → X
    not_before r w j k f =
        step_not_right h cites earlier (last_term l.start (take w.place l.steps)) w.step a (w.place + 1) r w.refused (step_before earlier l.start l.steps w.place j w.step k w.stands f)

    lemma_not_right : {X : Type 0} (r : ReplayRefusal) → IsLemmaRefused h cites earlier l a r → AreRightSteps h cites earlier l.start l.steps → X
    lemma_not_right r w f = not_before r w (suc w.place) (omega arith) (first_steps earlier l.start l.steps (suc w.place) f)

    one_lemma_refused : (r s : ReplayRefusal) → IsLemmaRefused h cites earlier l a r → IsLemmaRefused h cites earlier l a s → r ≡ s
    one_lemma_refused r s w v = go (cases_order w.place v.place)
      where
        go : (w.place ≡ v.place) ⊎ ((w.place < v.place) ⊎ (v.place < w.place)) → r ≡ s
        go (inr (inl k)) = not_before r w v.place k v.before
        go (inr (inr k)) = not_before s v w.place k w.before
        go (inl k) =
            let step : v.step ≡ w.step = some_is (slice_get l.steps v.place) v.step w.step v.stands (ap (slice_get l.steps) (sym k) ∙ w.stands) in
            let here = subst (λ (n : ℕ). IsStepRefused h cites earlier (last_term l.start (take n l.steps)) v.step a (n + 1) s) (sym k) v.refused in
            let same = subst (λ (x : ProofStep). IsStepRefused h cites earlier (last_term l.start (take w.place l.steps)) x a (w.place + 1) s) step here in
            one_step_refused h cites earlier (last_term l.start (take w.place l.steps)) w.step a (w.place + 1) r s w.refused same

  module _ (ls : List Lemma) where
    wrong_before : {X : Type 0} (r : ReplayRefusal) (w : IsFirstWrong h cites ls r) (j : ℕ) → w.place < j → AreRightLemmas h cites [] (take j ls) → X
    wrong_before r w j k f =
        lemma_not_right (conclusions (take w.place ls)) w.lemma (w.place + 1) r w.refused (lemma_before [] ls w.place j w.lemma k w.stands f)

    pub right_or_wrong : (r : ReplayRefusal) → IsFirstWrong h cites ls r → AreRightLemmas h cites [] ls → ⊥
    right_or_wrong r w f = wrong_before r w (suc w.place) (omega arith) (first_lemmas [] ls (suc w.place) f)

    pub one_wrong : (r s : ReplayRefusal) → IsFirstWrong h cites ls r → IsFirstWrong h cites ls s → r ≡ s
    one_wrong r s w v = go (cases_order w.place v.place)
      where
        go : (w.place ≡ v.place) ⊎ ((w.place < v.place) ⊎ (v.place < w.place)) → r ≡ s
        go (inr (inl k)) = wrong_before r w v.place k v.before
        go (inr (inr k)) = wrong_before s v w.place k w.before
        go (inl k) =
            let lemma : v.lemma ≡ w.lemma = some_is (slice_get ls v.place) v.lemma w.lemma v.stands (ap (slice_get ls) (sym k) ∙ w.stands) in
            let here = subst (λ (n : ℕ). IsLemmaRefused h cites (conclusions (take n ls)) v.lemma (n + 1) s) (sym k) v.refused in
            let same = subst (λ (x : Lemma). IsLemmaRefused h cites (conclusions (take w.place ls)) x (w.place + 1) s) lemma here in
            one_lemma_refused (conclusions (take w.place ls)) w.lemma (w.place + 1) r s w.refused same

has_or_trivial : {X : Type 0} (p : Equation) → HasNumber p → IsTrivial p → X
has_or_trivial p (inl h) k = absurd (h k.0)
has_or_trivial p (inr h) k = absurd (k.1 h.0 h.1)

module _ (l : LawList) where
  one_answer : (p : Equation) (n m : Numbered) → IsTheList l.order l.equations → IsNumberAnswer l p n → IsNumberAnswer l p m → n ≡ m
  one_answer p (Is n) (Is m) is h k = ap Is (one_number_of l.order l.equations p n m is h.2 k.2)
  one_answer p (Is n) Trivial is h k = has_or_trivial p h.1 k.1
  one_answer p (Is n) (TooManyOps m) is h k = absurd (omega (arith, h.0, k.0))
  one_answer p Trivial (Is m) is h k = has_or_trivial p k.1 h.1
  one_answer p Trivial Trivial is h k = refl
  one_answer p Trivial (TooManyOps m) is h k = absurd (omega (arith, h.0, k.0))
  one_answer p (TooManyOps n) (Is m) is h k = absurd (omega (arith, h.0, k.0))
  one_answer p (TooManyOps n) Trivial is h k = absurd (omega (arith, h.0, k.0))
  one_answer p (TooManyOps n) (TooManyOps m) is h k = ap TooManyOps (h.1 ∙ sym k.1)

  other_found : (p goal : Equation) (r : ReplayRefusal) → IsOtherLaw l p goal r → (n : Numbered) × (r ≡ GoalDiffers n) × IsNumberAnswer l p n × (Same p goal → ⊥)
  other_found p goal (GoalDiffers n) o = (n, refl, o.0, o.1)
  other_found p goal (Reference a b n) o = absurd o
  other_found p goal (Citation a b n) o = absurd o
  other_found p goal (NoPlace a b) o = absurd o
  other_found p goal (OutsideChanged a b) o = absurd o
  other_found p goal (NoMatch a b) o = absurd o
  other_found p goal NoMemory o = absurd o

  module _ (h goal : Equation) (cites : List Equation) (ls : List Lemma) where
    pub one_other : (r s : ReplayRefusal) → IsTheList l.order l.equations → IsOtherGoal l h goal cites ls r → IsOtherGoal l h goal cites ls s → r ≡ s
    one_other r s is x y =
        let f = other_found (conclusion x.final) goal r x.other in
        let g = other_found (conclusion y.final) goal s y.other in
        let final : y.final ≡ x.final = some_is _ y.final x.final y.last x.last in
        let found = subst (λ (z : Lemma). IsNumberAnswer l (conclusion z) g.0) final g.2 in
        f.1 ∙ ap GoalDiffers (one_answer (conclusion x.final) f.0 g.0 is f.2 found) ∙ sym g.1

    pub same_or_other : (r : ReplayRefusal) → IsOtherGoal l h goal cites ls r → IsValidProof h goal cites ls → ⊥
    same_or_other r x v =
        let final : v.final ≡ x.final = some_is _ v.final x.final v.last x.last in
        (other_found (conclusion x.final) goal r x.other).3 (subst (λ (z : Lemma). Same (conclusion z) goal) final v.reached)

    pub one_refusal : (r s : ReplayRefusal) → IsTheList l.order l.equations → IsFirstOffence l h goal cites ls r → IsFirstOffence l h goal cites ls s → r ≡ s
    one_refusal r s is (inl x) (inl y) = one_wrong h cites ls r s x y
    one_refusal r s is (inl x) (inr y) = absurd (right_or_wrong h cites ls r x y.right)
    one_refusal r s is (inr x) (inl y) = absurd (right_or_wrong h cites ls s y x.right)
    one_refusal r s is (inr x) (inr y) = one_other r s is x y

    pub valid_or_refused : (r : ReplayRefusal) → IsFirstOffence l h goal cites ls r → IsValidProof h goal cites ls → ⊥
    valid_or_refused r (inl x) v = right_or_wrong h cites ls r x v.right
    valid_or_refused r (inr x) v = same_or_other r x v
