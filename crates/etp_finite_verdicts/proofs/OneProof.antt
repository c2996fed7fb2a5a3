-- A finite proof has one first offence, and a valid one none.
use Rattle.std.proofs.Common.{◌≡◌, ◌⊎◌, inl, inr, ℕ, zero, suc, ◌+◌, ◌<◌, List, [], ◌∷◌, ◌++◌, take, Some, slice_get, refl, sym, ap, ◌∙◌, subst, arith, append_assoc, append-nil}
use Rattle.std.proofs.lemmas.Bool.{cases_order}
use Rattle.etp_theory.specs.Trees.{Equation}
use Rattle.etp_theory.specs.Sameness.{Same}
use Rattle.etp_laws.specs.Listing.{IsTheList}
use Rattle.etp_laws.specs.LawLists.{LawList, HasNumber, IsTrivial}
use Rattle.etp_laws.specs.NumberAnswers.{IsNumberAnswer}
use Rattle.etp_laws.specs.declared.laws.Numbered.{Numbered}
use Rattle.etp_laws.specs.declared.laws.Numbered.TheVariants.{Is, Trivial, TooManyOps}
use Rattle.etp_laws.proofs.DualNumbers.{one_number_of}
use Rattle.etp_replay.specs.Validity.{IsOtherLaw}
use Rattle.etp_replay.specs.declared.refusal.ReplayRefusal.{ReplayRefusal}
use Rattle.etp_replay.specs.declared.refusal.ReplayRefusal.TheVariants.{Reference, NoPlace, OutsideChanged, NoMatch, GoalDiffers, Citation, NoMemory}
use Rattle.etp_replay.proofs.OneStep.{some_is}
use Rattle.etp_cancel.specs.Cancelling.{FiniteLemma, finite_conclusion, finite_conclusions, IsRightFiniteLemma, AreRightFiniteLemmas, IsFinitelyValid}
use Rattle.etp_finite_replay.specs.FiniteReplay.{IsFiniteLemmaRefused, IsFirstWrongLemma}
use Rattle.etp_finite_replay.specs.FiniteValidity.{IsOtherFiniteGoal, IsFiniteOffence}
use Rattle.etp_finite_replay.specs.declared.refusal.FiniteReplayRefusal.{FiniteReplayRefusal}
use Rattle.etp_finite_replay.specs.declared.refusal.FiniteReplayRefusal.TheVariants as Finite
use Rattle.etp_finite_verdicts.proofs.OneLemma.{lemma_not_right, one_lemma_refused}

module _ (h : Equation) where
  first_lemmas : (earlier : List Equation) (ls : List FiniteLemma) (n : ℕ) → AreRightFiniteLemmas h earlier ls → AreRightFiniteLemmas h earlier (take n ls)
  first_lemmas earlier ls zero r = tt
  first_lemmas earlier [] (suc n) r = tt
  first_lemmas earlier (l ∷ ls) (suc n) r = (r.0, first_lemmas (earlier ++ (finite_conclusion l ∷ [])) ls n r.1)

  lemma_before : (earlier : List Equation) (ls : List FiniteLemma) (i j : ℕ) (l : FiniteLemma) → i < j → slice_get ls i ≡ Some l
      → AreRightFiniteLemmas h earlier (take j ls) → IsRightFiniteLemma h (earlier ++ finite_conclusions (take i ls)) l
  lemma_before earlier ls i zero l k q r = absurd (omega (arith, k))
  lemma_before earlier [] i (suc j) l k q r = absurd (cc)
  lemma_before earlier (m ∷ ms) zero (suc j) l k q r =
      subst (λ (n : FiniteLemma). IsRightFiniteLemma h (earlier ++ []) n) (let f : Some m ≡ Some l = q in let g : m ≡ l = cc in g)
      (subst (λ (e : List Equation). IsRightFiniteLemma h e m) (sym (append-nil earlier)) r.0)
  lemma_before earlier (m ∷ ms) (suc i) (suc j) l k q r =
      subst (λ (e : List Equation). IsRightFiniteLemma h e l) (append_assoc earlier (finite_conclusion m ∷ []) (finite_conclusions (take i ms)))
      (lemma_before (earlier ++ (finite_conclusion m ∷ [])) ms i j l (omega (arith, k)) q r.1)

  module _ (ls : List FiniteLemma) where
    wrong_before : {X : Type 0} (r : FiniteReplayRefusal) (w : IsFirstWrongLemma h ls r) (j : ℕ) → w.place < j → AreRightFiniteLemmas h [] (take j ls) → X
    wrong_before r w j k f =
        lemma_not_right h (finite_conclusions (take w.place ls)) w.lemma (w.place + 1) r w.refused (lemma_before [] ls w.place j w.lemma k w.stands f)

    right_or_wrong : {X : Type 0} (r : FiniteReplayRefusal) → IsFirstWrongLemma h ls r → AreRightFiniteLemmas h [] ls → X
    right_or_wrong r w f = wrong_before r w (suc w.place) (omega arith) (first_lemmas [] ls (suc w.place) f)

    one_wrong : (r s : FiniteReplayRefusal) → IsFirstWrongLemma h ls r → IsFirstWrongLemma h ls s → r ≡ s
    one_wrong r s w v = go (cases_order w.place v.place)
      where
        go : (w.place ≡ v.place) ⊎ ((w.place < v.place) ⊎ (v.place < w.place)) → r ≡ s
        go (inr (inl k)) = wrong_before r w v.place k v.before
        go (inr (inr k)) = wrong_before s v w.place k w.before
        go (inl k) =
            let lemma : v.lemma ≡ w.lemma = some_is (slice_get ls v.place) v.lemma w.lemma v.stands (ap (slice_get ls) (sym k) ∙ w.stands) in
            let here = subst (λ (n : ℕ). IsFiniteLemmaRefused h (finite_conclusions (take n ls)) v.lemma (n + 1) s) (sym k) v.refused in
            let same = subst (λ (x : FiniteLemma). IsFiniteLemmaRefused h (finite_conclusions (take w.place ls)) x (w.place + 1) s) lemma here in
            one_lemma_refused h (finite_conclusions (take w.place ls)) w.lemma (w.place + 1) r s w.refused same

has_or_trivial : {X : Type 0} (p : Equation) → HasNumber p → IsTrivial p → X
has_or_trivial p (inl h) k = absurd (h k.0)
has_or_trivial p (inr h) k = absurd (k.1 h.0 h.1)

module _ (l : LawList) where
  one_answer : (p : Equation) (n m : Numbered) → IsTheList l.order l.equations → IsNumberAnswer l p n → IsNumberAnswer l p m → n ≡ m
  one_answer p (Is n) (Is m) is h k = ap Is (one_number_of l.order l.equations p n m is h.2 k.2)
  one_answer p (Is n) Trivial is h k = has_or_trivial p h.1 k.1
  one_answer p (Is n) (TooManyOps m) is h k = absurd (omega (arith, h.0, k.0))
  one_answer p Trivial (Is m) is h k = has_or_trivial p k.1 h.1
  one_answer p Trivial Trivial is h k = refl
  one_answer p Trivial (TooManyOps m) is h k = absurd (omega (arith, h.0, k.0))
  one_answer p (TooManyOps n) (Is m) is h k = absurd (omega (arith, h.0, k.0))
  one_answer p (TooManyOps n) Trivial is h k = absurd (omega (arith, h.0, k.0))
  one_answer p (TooManyOps n) (TooManyOps m) is h k = ap TooManyOps (h.1 ∙ sym k.1)

  other_found : (p goal : Equation) (r : ReplayRefusal) → IsOtherLaw l p goal r → (n : Numbered) × (r ≡ GoalDiffers n) × IsNumberAnswer l p n × (Same p goal → ⊥)
  other_found p goal (GoalDiffers n) o = (n, refl, o.0, o.1)
  other_found p goal (Reference a b n) o = absurd o
  other_found p goal (Citation a b n) o = absurd o
  other_found p goal (NoPlace a b) o = absurd o
  other_found p goal (OutsideChanged a b) o = absurd o
  other_found p goal (NoMatch a b) o = absurd o
  other_found p goal NoMemory o = absurd o

  module _ (h goal : Equation) (ls : List FiniteLemma) where
    one_other : (r s : ReplayRefusal) → IsTheList l.order l.equations → IsOtherFiniteGoal l h goal ls r → IsOtherFiniteGoal l h goal ls s → r ≡ s
    one_other r s is x y =
        let f = other_found (finite_conclusion x.final) goal r x.other in
        let g = other_found (finite_conclusion y.final) goal s y.other in
        let final : y.final ≡ x.final = some_is _ y.final x.final y.last x.last in
        let found = subst (λ (z : FiniteLemma). IsNumberAnswer l (finite_conclusion z) g.0) final g.2 in
        f.1 ∙ ap GoalDiffers (one_answer (finite_conclusion x.final) f.0 g.0 is f.2 found) ∙ sym g.1

    same_or_other : (r : ReplayRefusal) → IsOtherFiniteGoal l h goal ls r → IsFinitelyValid h goal ls → ⊥
    same_or_other r x v =
        let final : v.final ≡ x.final = some_is _ v.final x.final v.last x.last in
        (other_found (finite_conclusion x.final) goal r x.other).3 (subst (λ (z : FiniteLemma). Same (finite_conclusion z) goal) final v.reached)

    pub one_refusal : (r s : FiniteReplayRefusal) → IsTheList l.order l.equations → IsFiniteOffence l h goal ls r → IsFiniteOffence l h goal ls s → r ≡ s
    one_refusal r s is (inl x) (inl y) = one_wrong h ls r s x y
    one_refusal r s is (inl x) (inr y) = right_or_wrong h ls r x y.2.right
    one_refusal r s is (inr x) (inl y) = right_or_wrong h ls s y x.2.right
    one_refusal r s is (inr x) (inr y) = x.1 ∙ ap Finite.Replay (one_other x.0 y.0 is x.2 y.2) ∙ sym y.1

    pub valid_or_refused : (r : FiniteReplayRefusal) → IsFiniteOffence l h goal ls r → IsFinitelyValid h goal ls → ⊥
    valid_or_refused r (inl x) v = right_or_wrong h ls r x v.right
    valid_or_refused r (inr x) v = same_or_other x.0 x.2 v
