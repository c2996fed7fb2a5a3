-- Right lemmas of a finite proof, one more at a time.
use Rattle.std.proofs.Common.{◌≡◌, ◌⊎◌, inl, inr, ℕ, ◌+◌, ◌<◌, length, get_or, take, map, slice_get, Some, List, [], ◌∷◌, ◌++◌, refl, sym, ap, ap₂, ◌∙◌, subst, append_assoc, append-nil}
use Rattle.std.proofs.lemmas.List.{take-map}
use Rattle.etp_theory.specs.Trees.{Equation}
use Rattle.etp_term.specs.Laws.{equation_of}
use Rattle.etp_term.specs.declared.law.Law.{Law}
use Rattle.etp_match.proofs.Extending.{map_after}
use Rattle.etp_replay.proofs.Growing.{taken, stands_at}
use Rattle.etp_cancel.specs.Cancelling.{FiniteLemma, finite_conclusion, finite_conclusions, IsRightFiniteLemma, AreRightFiniteLemmas}
use Rattle.etp_finite_body.specs.FiniteBodies.{finite_lemma_of}
use Rattle.etp_finite_body.specs.declared.lemmas.FiniteLemma as Program
use Rattle.etp_finite_replay.specs.FiniteReplay.{IsFiniteLemmaRefused, IsFirstWrongLemma}
use Rattle.etp_finite_replay.specs.declared.refusal.FiniteReplayRefusal.{FiniteReplayRefusal}
use Rattle.etp_finite_replay.specs.declared.refusal.FiniteReplayRefusal.TheVariants.{NoMemory}

lemmas_end : (h : Equation) (earlier : List Equation) (ls : List FiniteLemma) (l : FiniteLemma) → AreRightFiniteLemmas h earlier ls → IsRightFiniteLemma h (earlier ++ finite_conclusions ls) l → AreRightFiniteLemmas h earlier (ls ++ l ∷ [])
lemmas_end h earlier [] l r k = (subst (λ (e : List Equation). IsRightFiniteLemma h e l) (append-nil earlier) k, tt)
lemmas_end h earlier (m ∷ ms) l r k =
    (r.0, lemmas_end h (earlier ++ finite_conclusion m ∷ []) ms l r.1 (subst (λ (e : List Equation). IsRightFiniteLemma h e l) (sym (append_assoc earlier (finite_conclusion m ∷ []) (finite_conclusions ms))) k))

conclusions_end : (ls : List FiniteLemma) (l : FiniteLemma) → finite_conclusions (ls ++ l ∷ []) ≡ finite_conclusions ls ++ finite_conclusion l ∷ []
conclusions_end [] l = refl
conclusions_end (m ∷ ms) l = ap (λ z. finite_conclusion m ∷ z) (conclusions_end ms l)

module _ (h : Equation) (xs : List Program.FiniteLemma) (i : ℕ) (x : Program.FiniteLemma) (k : i < length xs) (q : x ≡ get_or xs i x) where
  pub lemmas_more : (known : List Equation) → known ≡ finite_conclusions (map finite_lemma_of (take i xs)) → AreRightFiniteLemmas h [] (map finite_lemma_of (take i xs)) → IsRightFiniteLemma h known (finite_lemma_of x)
      → AreRightFiniteLemmas h [] (map finite_lemma_of (take (i + 1) xs))
  lemmas_more known e r f =
      subst (AreRightFiniteLemmas h []) (sym (taken finite_lemma_of xs i x k q))
      (lemmas_end h [] (map finite_lemma_of (take i xs)) (finite_lemma_of x) r (subst (λ (z : List Equation). IsRightFiniteLemma h z (finite_lemma_of x)) e f))

  pub found_more : (laws new : List Law) (law : Law) → new ≡ laws ++ law ∷ [] → map equation_of laws ≡ finite_conclusions (map finite_lemma_of (take i xs)) → equation_of law ≡ finite_conclusion (finite_lemma_of x)
      → map equation_of new ≡ finite_conclusions (map finite_lemma_of (take (i + 1) xs))
  found_more laws new law n e f =
      ap (map equation_of) n ∙ map_after equation_of laws (law ∷ []) ∙ ap₂ (λ a b. a ++ b ∷ []) e f
      ∙ sym (ap finite_conclusions (taken finite_lemma_of xs i x k q) ∙ conclusions_end (map finite_lemma_of (take i xs)) (finite_lemma_of x))

  pub first_wrong : (known : List Equation) (r : FiniteReplayRefusal) → known ≡ finite_conclusions (map finite_lemma_of (take i xs)) → AreRightFiniteLemmas h [] (map finite_lemma_of (take i xs)) → IsFiniteLemmaRefused h known (finite_lemma_of x) (i + 1) r
      → IsFirstWrongLemma h (map finite_lemma_of xs) r
  first_wrong known r e f w = record {
    place = i;
    lemma = finite_lemma_of x;
    stands = stands_at finite_lemma_of xs i x k q;
    before = subst (AreRightFiniteLemmas h []) (sym (take-map finite_lemma_of i xs)) f;
    refused = subst (λ (ls : List FiniteLemma). IsFiniteLemmaRefused h (finite_conclusions ls) (finite_lemma_of x) (i + 1) r) (sym (take-map finite_lemma_of i xs))
        (subst (λ (z : List Equation). IsFiniteLemmaRefused h z (finite_lemma_of x) (i + 1) r) e w);
  }

  pub wrong_or_memory : (known : List Equation) (r : FiniteReplayRefusal) → known ≡ finite_conclusions (map finite_lemma_of (take i xs)) → AreRightFiniteLemmas h [] (map finite_lemma_of (take i xs))
      → (r ≡ NoMemory) ⊎ IsFiniteLemmaRefused h known (finite_lemma_of x) (i + 1) r → (r ≡ NoMemory) ⊎ IsFirstWrongLemma h (map finite_lemma_of xs) r
  wrong_or_memory known r e f (inl none) = inl none
  wrong_or_memory known r e f (inr w) = inr (first_wrong known r e f w)
