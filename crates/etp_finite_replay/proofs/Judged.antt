-- A finite proof is valid, or its goal differs, by its last conclusion.
use Rattle.std.proofs.Common.{◌≡◌, ◌⊎◌, inl, inr, ◌-◌, ◌<◌, ℕ, zero, suc, List, [], ◌∷◌, length, map, slice_get, Some, refl, sym, ap, ◌∙◌, subst, arith, Result, Ok, Err, OnOk, IfErr}
use Rattle.std.specs.Option.{option_map}
use Rattle.std.proofs.lemmas.Option.{slice_get-map}
use Rattle.etp_theory.specs.Trees.{Equation}
use Rattle.etp_theory.specs.Sameness.{Same}
use Rattle.etp_laws.specs.LawLists.{LawList}
use Rattle.etp_term.specs.Laws.{equation_of}
use Rattle.etp_term.specs.declared.law.Law.{Law}
use Rattle.etp_proof.proofs.LastTerm.{length_map}
use Rattle.etp_replay.specs.Validity.{IsOtherLaw}
use Rattle.etp_replay.specs.declared.refusal.ReplayRefusal.{ReplayRefusal}
use Rattle.etp_cancel.specs.FiniteMagmas.{FiniteImplies}
use Rattle.etp_cancel.specs.Cancelling.{FiniteLemma, finite_conclusion, finite_conclusions, AreRightFiniteLemmas, IsFinitelyValid}
use Rattle.etp_cancel.proofs.Concluding as Concluding
use Rattle.etp_finite_body.specs.FiniteBodies.{finite_lemma_of}
use Rattle.etp_finite_body.specs.declared.lemmas.FiniteLemma as Program
use Rattle.etp_finite_replay.specs.FiniteReplay.{IsFirstWrongLemma}
use Rattle.etp_finite_replay.specs.FiniteValidity.{IsOtherFiniteGoal, IsFiniteOffence}
use Rattle.etp_finite_replay.specs.declared.refusal.FiniteReplayRefusal.{FiniteReplayRefusal}
use Rattle.etp_finite_replay.specs.declared.refusal.FiniteReplayRefusal.TheVariants.{Replay, NoMemory}

conclusion_back : (ls : List FiniteLemma) (k : ℕ) (c : Equation) → slice_get (finite_conclusions ls) k ≡ Some c → (l : FiniteLemma) × (slice_get ls k ≡ Some l) × (finite_conclusion l ≡ c)
conclusion_back [] k c h = absurd (cc)
conclusion_back (l ∷ ls) zero c h = (l, refl, let e : Some (finite_conclusion l) ≡ Some c = h in cc)
conclusion_back (l ∷ ls) (suc k) c h = conclusion_back ls k c h

as_many : (ls : List FiniteLemma) → length (finite_conclusions ls) ≡ length ls
as_many [] = refl
as_many (l ∷ ls) = ap suc (as_many ls)

module _ (h g : Equation) (ls : List FiniteLemma) (laws : List Law) (law : Law) (right : AreRightFiniteLemmas h [] ls) (found : map equation_of laws ≡ finite_conclusions ls) (last : slice_get laws (length laws - 1) ≡ Some law) where
  lengths : length laws ≡ length ls
  lengths = sym (length_map equation_of laws) ∙ ap length found ∙ as_many ls

  final : (l : FiniteLemma) × (slice_get ls (length ls - 1) ≡ Some l) × (finite_conclusion l ≡ equation_of law)
  final = conclusion_back ls (length ls - 1) (equation_of law)
      (ap (λ z. slice_get z (length ls - 1)) (sym found) ∙ ap (λ n. slice_get (map equation_of laws) (n - 1)) (sym lengths)
      ∙ slice_get-map equation_of laws (length laws - 1) ∙ ap (option_map equation_of) last)

  is_valid : Same (equation_of law) g → IsFinitelyValid h g ls
  is_valid s = record { right = right; final = final.0; last = final.1; reached = subst (λ z. Same z g) (sym final.2) s }

  other_goal : (l : LawList) (r : ReplayRefusal) → IsOtherLaw l (equation_of law) g r → IsOtherFiniteGoal l h g ls r
  other_goal l r o = record { right = right; final = final.0; last = final.1; other = subst (λ z. IsOtherLaw l z g r) (sym final.2) o }

module _ (h h' g : Equation) (xs ys : List Program.FiniteLemma) (hypothesis : h' ≡ h) (lemmas : ys ≡ xs) where
  moved : AreRightFiniteLemmas h' [] (map finite_lemma_of ys) → AreRightFiniteLemmas h [] (map finite_lemma_of xs)
  moved r = subst (λ z. AreRightFiniteLemmas z [] (map finite_lemma_of xs)) hypothesis
      (subst (λ (z : List Program.FiniteLemma). AreRightFiniteLemmas h' [] (map finite_lemma_of z)) lemmas r)

  pub wrong_moved : (l : LawList) (r : FiniteReplayRefusal) → (r ≡ NoMemory) ⊎ IsFirstWrongLemma h' (map finite_lemma_of ys) r → (r ≡ NoMemory) ⊎ IsFiniteOffence l h g (map finite_lemma_of xs) r
  wrong_moved l r (inl none) = inl none
  wrong_moved l r (inr w) = inr (inl (subst (λ z. IsFirstWrongLemma z (map finite_lemma_of xs) r) hypothesis
      (subst (λ (z : List Program.FiniteLemma). IsFirstWrongLemma h' (map finite_lemma_of z) r) lemmas w)))

  module _ (laws : List Law) (law : Law) (right : AreRightFiniteLemmas h' [] (map finite_lemma_of ys)) (found : map equation_of laws ≡ finite_conclusions (map finite_lemma_of ys)) (last : slice_get laws (length laws - 1) ≡ Some law) where
    kept : map equation_of laws ≡ finite_conclusions (map finite_lemma_of xs)
    kept = found ∙ ap (λ (z : List Program.FiniteLemma). finite_conclusions (map finite_lemma_of z)) lemmas

    pub valid_by : {E : Type 0} (r : Result (Unit {0}) E) → OnOk r (Same (equation_of law) g) → OnOk r (IsFinitelyValid h g (map finite_lemma_of xs))
    valid_by (Ok u) s = is_valid h g (map finite_lemma_of xs) laws law (moved right) kept last s
    valid_by (Err e) s = tt

    pub implied_by : {E : Type 0} (r : Result (Unit {0}) E) → OnOk r (Same (equation_of law) g) → OnOk r (FiniteImplies h g)
    implied_by (Ok u) s = Concluding.proved h g (map finite_lemma_of xs) (is_valid h g (map finite_lemma_of xs) laws law (moved right) kept last s)
    implied_by (Err e) s = tt

    pub refused_by : (l : LawList) (r : Result (Unit {0}) FiniteReplayRefusal) → IfErr r (λ x. (t : ReplayRefusal) × (x ≡ Replay t) × IsOtherLaw l (equation_of law) g t)
        → IfErr r (λ x. (x ≡ NoMemory) ⊎ IsFiniteOffence l h g (map finite_lemma_of xs) x)
    refused_by l (Ok u) o = tt
    refused_by l (Err x) o = inr (inr (o.0, o.1, other_goal h g (map finite_lemma_of xs) laws law (moved right) kept last l o.0 o.2))
