-- Laws are judged in one way.
use Rattle.std.specs.Prelude.{◌≡◌, ◌⊎◌, ℕ, List, All, IsSome}
use Rattle.etp_theory.specs.Trees.{Equation}
use Rattle.etp_theory.specs.LawNumbers.{law_numbered}
use Rattle.etp_canonical.specs.Judgements.{IsJudged, IsFirstOffence}
use Rattle.etp_canonical.specs.declared.refusal.ClaimRefusal.{ClaimRefusal}

pub record CanonicalTheorems : Type 0 where
  -- listed laws are judged right or have a first offence, never both
  pub judged_or_not : (laws rules : List Equation) (holds fails : List ℕ)
      → All (λ n. IsSome (law_numbered laws n)) holds
      → All (λ n. IsSome (law_numbered laws n)) fails
      → IsJudged laws rules holds fails
      ⊎ ((r : ClaimRefusal) × IsFirstOffence laws rules holds fails r)
  pub not_both : (laws rules : List Equation) (holds fails : List ℕ) (r : ClaimRefusal)
      → IsJudged laws rules holds fails → IsFirstOffence laws rules holds fails r → ⊥
  pub one_offence : (laws rules : List Equation) (holds fails : List ℕ) (r s : ClaimRefusal)
      → IsFirstOffence laws rules holds fails r → IsFirstOffence laws rules holds fails s → r ≡ s
