-- What the search comes to is what is answered.
use Rattle.std.proofs.Common.{◌≡◌, ℕ, List, [], ◌∷◌, map, length, IsSome, arith, sym, ap, ◌∙◌, subst}
use Rattle.etp_theory.specs.Trees.{Equation}
use Rattle.etp_theory.specs.LawNumbers.{law_numbered}
use Rattle.etp_theory.specs.Proofs.{Lemma, IsValidProof}
use Rattle.etp_proof.specs.Lemmas.{lemma_of}
use Rattle.etp_proof.specs.declared.proof.Proof.{Proof}
use Rattle.etp_replay.specs.Validity.{law_at, IsValid}
use Rattle.etp_search.specs.Spaces.{Space}
use Rattle.etp_search.specs.Outcomes.{IsShortest, IsOutcome, IsOutcomeFrom}
use Rattle.etp_search.specs.Searched.{space_for, IsNamed, IsFewest}
use Rattle.etp_search.specs.declared.levels.Outcome.{Outcome}
use Rattle.etp_search.specs.declared.levels.Outcome.TheVariants.{Reached, Nothing, Budget}
use Rattle.etp_search.proofs.LevelByLevel.{led_home}
use Rattle.etp_search.proofs.ProofsOver.{valid, no_fewer}

pub moved : (space there : Space) (goal law : Equation) (steps : ℕ) (o p : Outcome) → space ≡ there → goal ≡ law → o ≡ p → IsOutcome space goal steps o → IsOutcome there law steps p
moved space there goal law steps o p at is same h = subst (λ s. IsOutcome s law steps p) at (subst (λ e. IsOutcome space e steps p) is (subst (IsOutcome space goal steps) same h))

-- from level 0 on
pub outcome_home : (space : Space) (goal : Equation) (steps : ℕ) (o : Outcome) → IsOutcomeFrom space goal steps 0 o → IsOutcome space goal steps o
outcome_home space goal steps (Reached l) h = led_home space goal steps (lemma_of l) h
outcome_home space goal steps Nothing h = h
outcome_home space goal steps (Budget level) h = h

first_same : (l m : Lemma) → l ∷ [] ≡ m ∷ [] → l ≡ m
first_same l m e = ap first e
  where
    first : List Lemma → Lemma
    first [] = l
    first (x ∷ xs) = x

pub is_valid : (laws : List Equation) (hypothesis goal leaves steps : ℕ) (p : Proof) (l : Lemma) → IsSome (law_numbered laws hypothesis) → IsSome (law_numbered laws goal) → IsNamed hypothesis goal p → map lemma_of p.lemmas ≡ l ∷ [] → IsShortest (space_for laws hypothesis goal leaves) (law_at laws goal) steps l → IsValid laws p []
is_valid laws hypothesis goal leaves steps p l from to named alone shortest = record {
  hypothesis_listed = subst (λ n. IsSome (law_numbered laws n)) (sym named.from) from;
  goal_listed = subst (λ n. IsSome (law_numbered laws n)) (sym named.to) to;
  as_many = ap length (sym named.cites);
  cited_listed = λ k d lt. absurd (omega (arith, lt));
  right = subst (λ n. IsValidProof (law_at laws n) (law_at laws p.goal) [] (map lemma_of p.lemmas)) (sym named.from)
      (subst (λ n. IsValidProof (law_at laws hypothesis) (law_at laws n) [] (map lemma_of p.lemmas)) (sym named.to)
      (subst (λ (ls : List Lemma). IsValidProof (law_at laws hypothesis) (law_at laws goal) [] ls) (sym alone)
      (valid (space_for laws hypothesis goal leaves) (law_at laws goal) steps l shortest)));
}

pub is_fewest : (space : Space) (goal : Equation) (steps : ℕ) (p : Proof) (l : Lemma) → map lemma_of p.lemmas ≡ l ∷ [] → IsShortest space goal steps l → IsFewest space goal p
is_fewest space goal steps p l alone shortest = λ found is other over. no_fewer space goal steps found other (subst (IsShortest space goal steps) (first_same l found (sym alone ∙ is)) shortest) over
