-- What is found of a rule system and its claims is the body's first offence.
use Rattle.std.proofs.Common.{◌≡◌, ◌≢◌, ◌⊎◌, ℕ, List, ap, subst, subst₂, ◌∙◌, inl, inr}
use Rattle.etp_theory.specs.Trees.{Equation}
use Rattle.etp_theory.specs.Weights.{Weight}
use Rattle.etp_theory.specs.Overlaps.{IsConvergent}
use Rattle.etp_laws.specs.LawLists.{LawList}
use Rattle.etp_rules.specs.Rules.{rules_of}
use Rattle.etp_rules.specs.Weighing.{weight_of}
use Rattle.etp_rules.specs.Deciding.{IsInRange, AreAllowed}
use Rattle.etp_rules.specs.declared.system.RuleSystem.{RuleSystem}
use Rattle.etp_pairs.specs.Refusals as Overlapping
use Rattle.etp_pairs.specs.declared.refusal.PairsRefusal.{PairsRefusal}
use Rattle.etp_pairs.specs.declared.refusal.PairsRefusal.TheVariants as Joining
use Rattle.etp_canonical.specs.Judgements.{IsFirstOffence, OrNoMemory}
use Rattle.etp_canonical.specs.declared.refusal.ClaimRefusal.{ClaimRefusal}
use Rattle.etp_lines.specs.Claims.{Claims}
use Rattle.etp_items.specs.Bodies.{rules, model}
use Rattle.etp_check.specs.Checks.{IsRuleMagma}
use Rattle.etp_check.specs.Claimed.{claim_refused}
use Rattle.etp_check.specs.Refusals.{IsSystemRefused, not_allowed, not_joining, not_claimed, IsCheckRefused}
use Rattle.etp_check.specs.declared.refusal.CheckRefusal.{CheckRefusal}
use Rattle.etp_check.specs.declared.refusal.CheckRefusal.TheVariants.{Pairs, NoMemory}

-- a value of the program's type is allowed
module _ (s : RuleSystem) (w : Weight) (rs : List Equation) (weight_is : weight_of s.weights ≡ w) (rules_is : rules_of s.rules ≡ rs) where
  pub in_range : IsInRange w
  in_range = subst IsInRange weight_is s.valid.weight

  pub allowed : AreAllowed w rs
  allowed = subst₂ AreAllowed weight_is rules_is s.valid.allowed

  pub rule_magma : IsConvergent (weight_of s.weights) (rules_of s.rules) → IsRuleMagma w rs
  rule_magma convergent = record { in_range = in_range; allowed = allowed; convergent = subst₂ IsConvergent weight_is rules_is convergent }

module _ (l : LawList) (w : Weight) (rs : List Equation) (claims : Claims) (cited : List ℕ) (r : CheckRefusal) where
  pub of_system : IsSystemRefused w rs r → IsCheckRefused l (model (rules w rs) claims) cited r
  of_system (inl none) = inl none
  of_system (inr (t, is, refused)) = inr (not_allowed t is refused)

  pub of_pairs : (t : PairsRefusal) → ((r ≡ NoMemory) × (t ≡ Joining.NoMemory)) ⊎ ((r ≡ Pairs t) × (t ≢ Joining.NoMemory))
      → IsInRange w → AreAllowed w rs → Overlapping.IsRefused rs t → IsCheckRefused l (model (rules w rs) claims) cited r
  of_pairs t (inl none) range all refused = inl none.0
  of_pairs t (inr some) range all refused = inr (not_joining t some.0 some.1 range all refused)

  pub of_claim : (t : ClaimRefusal) → r ≡ claim_refused t → IsRuleMagma w rs → OrNoMemory (IsFirstOffence l.equations rs claims.holds claims.fails) t
      → IsCheckRefused l (model (rules w rs) claims) cited r
  of_claim t is magma (inl none) = inl (is ∙ ap claim_refused none)
  of_claim t is magma (inr offence) = inr (not_claimed t is magma offence)
