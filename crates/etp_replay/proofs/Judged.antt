-- A proof is valid, or its goal differs, by what was found of its lemmas and its last conclusion.
use Rattle.std.proofs.Common.{◌≡◌, ◌-◌, ◌<◌, List, [], length, map, get_or, slice_get, Some, ap, ◌∙◌, subst, arith}
use Rattle.etp_theory.specs.Trees.{Equation}
use Rattle.etp_theory.specs.Sameness.{Same}
use Rattle.etp_theory.specs.Proofs.{conclusion, AreRightLemmas, IsValidProof}
use Rattle.etp_laws.specs.LawLists.{LawList}
use Rattle.etp_proof.specs.Lemmas.{lemma_of}
use Rattle.etp_replay.specs.Validity.{IsOtherLaw, IsOtherGoal}
use Rattle.etp_proof.specs.declared.proof.Lemma.{Lemma}
use Rattle.etp_replay.specs.declared.refusal.ReplayRefusal.{ReplayRefusal}
use Rattle.etp_replay.proofs.Growing.{stands_at}
use Rattle.etp_proof.proofs.LastTerm.{length_map}

last_stands : (xs ys : List Lemma) (x : Lemma) → ys ≡ xs → 0 < length xs → x ≡ get_or ys (length ys - 1) x → slice_get (map lemma_of xs) (length (map lemma_of xs) - 1) ≡ Some (lemma_of x)
last_stands xs ys x e k q =
    ap (λ n. slice_get (map lemma_of xs) (n - 1)) (length_map lemma_of xs)
    ∙ stands_at lemma_of xs (length xs - 1) x (omega arith) (subst (λ (zs : List Lemma). x ≡ get_or zs (length zs - 1) x) e q)

module _ (h h' g : Equation) (cites cites' : List Equation) (xs ys : List Lemma) (hypothesis : h' ≡ h) (cited : cites' ≡ cites) (lemmas : ys ≡ xs) (some : 0 < length xs) (right : AreRightLemmas h' cites' [] (map lemma_of ys)) (x : Lemma) (last : x ≡ get_or ys (length ys - 1) x) where
  moved : AreRightLemmas h cites [] (map lemma_of xs)
  moved = subst (λ z. AreRightLemmas z cites [] (map lemma_of xs)) hypothesis
      (subst (λ (z : List Equation). AreRightLemmas h' z [] (map lemma_of xs)) cited
      (subst (λ (z : List Lemma). AreRightLemmas h' cites' [] (map lemma_of z)) lemmas right))

  pub is_valid : Same (conclusion (lemma_of x)) g → IsValidProof h g cites (map lemma_of xs)
  is_valid s = record { right = moved; final = lemma_of x; last = last_stands xs ys x lemmas some last; reached = s }

  pub other_goal : (l : LawList) (r : ReplayRefusal) → IsOtherLaw l (conclusion (lemma_of x)) g r → IsOtherGoal l h g cites (map lemma_of xs) r
  other_goal l r o = record { right = moved; final = lemma_of x; last = last_stands xs ys x lemmas some last; other = o }
