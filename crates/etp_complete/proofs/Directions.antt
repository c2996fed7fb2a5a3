-- The rule from one term to another among a system's rules.
use Rattle.std.proofs.Common.{◌≡◌, ℕ, ◌+◌, ◌<◌, ◌≤◌, ◌⊎◌, inl, inr, List, [], ◌∷◌, ◌++◌, length, Some, slice_get, refl, ap, ◌∙◌, subst, arith}
use Rattle.etp_theory.specs.Trees.{Tree, ops, leaves, bound, Equation}
use Rattle.etp_theory.specs.Overlaps.{HasSmallVariables}
use Rattle.etp_theory.specs.Weights.{Weight, IsDecreasing}
use Rattle.etp_theory.proofs.Theorems.{term_theorems}
use Rattle.etp_term.specs.Terms.{tree_of}
use Rattle.etp_rules.specs.Rules.{rule_of, rules_of}
use Rattle.etp_rules.specs.Weighing as Weighing
use Rattle.etp_rules.specs.Systems.{IsSystem}
use Rattle.etp_rules.specs.Deciding.{IsInRange, IsCause, AreAllowed, IsFirstRefused, IsRefused}
use Rattle.etp_rules.specs.declared.rule.Rule.{Rule}
use Rattle.etp_rules.specs.declared.system.RuleSystem.{RuleSystem}
use Rattle.etp_rules.specs.declared.deciding.Cause.{Cause}
use Rattle.etp_rules.specs.declared.deciding.Cause.TheVariants.{Variable, Constant}
use Rattle.etp_rules.specs.declared.deciding.RulesRefusal.{RulesRefusal}
use Rattle.etp_rules.specs.declared.deciding.RulesRefusal.TheVariants.{NotDecreasing, SideTooLarge}
use Rattle.etp_numbering.specs.Numbering.{variables_of, place_in, AreNumberedAnew, HaveFew}
use Rattle.etp_numbering.specs.declared.numbering.Numbered.{Numbered}
use Rattle.etp_complete.specs.Completions.{rule_from}
use Rattle.etp_complete.specs.Rounds.{IsDirected}
use Rattle.etp_complete.specs.declared.growing.Directed.TheVariants.{Decreasing}
use Rattle.etp_complete.proofs.Lists.{at_end, which, small_more, one_rule_more, ops_renamed}

cause_or_decreasing : (w : Weight) (e : Equation) (c : Cause) → IsCause w e c → IsDecreasing w e → ⊥
cause_or_decreasing w e (Variable v) h d = omega (arith, h.smaller, d.coefficients v)
cause_or_decreasing w e Constant h d = omega (arith, h.1, d.constants)

too_large : (m n : ℕ) → (12 < m) ⊎ (12 < n) → m ≤ 12 → n ≤ 12 → ⊥
too_large m n (inl h) k l = omega arith
too_large m n (inr h) k l = omega arith

-- the program's rule
pub rule_is : (s t : Tree) (n : Numbered) → AreNumberedAnew s t n → (rule : Rule) → rule.left ≡ n.first → rule.right ≡ n.second → rule_of rule ≡ rule_from s t
rule_is s t n a rule l r i = record { left = (ap tree_of l ∙ a.first) i; right = (ap tree_of r ∙ a.second) i }

pub longer_is : (rules more : List Rule) (rule : Rule) (s t : Tree) → more ≡ rules ++ rule ∷ [] → rule_of rule ≡ rule_from s t → rules_of more ≡ rules_of rules ++ rule_from s t ∷ []
longer_is rules more rule s t e r = ap rules_of e ∙ one_rule_more rules rule ∙ ap (λ x. rules_of rules ++ x ∷ []) r

pub more_rules : (rules copied pushed : List Rule) (n : Numbered) (s t : Tree) → AreNumberedAnew s t n → copied ≡ rules → (let rule : Rule = record { left = n.first; right = n.second } in pushed ≡ copied ++ rule ∷ []) → rules_of pushed ≡ rules_of rules ++ rule_from s t ∷ []
more_rules rules copied pushed n s t a same e =
    let rule : Rule = record { left = n.first; right = n.second } in
    longer_is rules pushed rule s t (e ∙ ap (λ (xs : List Rule). xs ++ rule ∷ []) same) (rule_is s t n a rule refl refl)

few_variables : (s t u : Tree) → ops s ≤ 12 → ops t ≤ 12 → bound u ≤ leaves s + leaves t → bound u ≤ 64
few_variables s t u k l h = omega (arith, k, l, h, term_theorems.leaves_ops s, term_theorems.leaves_ops t)

pub rule_small : (s t : Tree) (n : Numbered) → AreNumberedAnew s t n → HaveFew (leaves s + leaves t) n → ops s ≤ 12 → ops t ≤ 12 → (bound (rule_from s t).left ≤ 64) × (bound (rule_from s t).right ≤ 64)
rule_small s t n a few k l = (
  subst (λ x. bound x ≤ 64) a.first (few_variables s t (tree_of n.first) k l few.first),
  subst (λ x. bound x ≤ 64) a.second (few_variables s t (tree_of n.second) k l few.second),
)

pub longer_small : (rules : List Equation) (s t : Tree) (n : Numbered) → HasSmallVariables rules → AreNumberedAnew s t n → HaveFew (leaves s + leaves t) n → ops s ≤ 12 → ops t ≤ 12 → HasSmallVariables (rules ++ rule_from s t ∷ [])
longer_small rules s t n small a few k l = let b = rule_small s t n a few k l in small_more rules (rule_from s t) small b.0 b.1

pub left_ops : (s t : Tree) → ops (rule_from s t).left ≡ ops s
left_ops s t = ops_renamed (place_in (variables_of s t)) s

pub right_ops : (s t : Tree) → ops (rule_from s t).right ≡ ops t
right_ops s t = ops_renamed (place_in (variables_of s t)) t

module _ (w : Weight) (rules : List Equation) (s t : Tree) where
  pub decreasing : (system : RuleSystem) → IsSystem system.weights system.rules → Weighing.weight_of system.weights ≡ w → rules_of system.rules ≡ rules ++ rule_from s t ∷ [] → IsDirected w rules s t (Decreasing system)
  decreasing system valid weight_is rules_are =
      let there = ap (λ x. slice_get x (length rules)) rules_are ∙ at_end rules (rule_from s t) in (
        subst (λ x. IsDecreasing x (rule_from s t)) weight_is (valid.allowed (length rules) (rule_from s t) there).decreasing,
        record { weight_is = weight_is; rules_are = rules_are },
      )

  -- the earlier rules are allowed, so the new one is refused
  pub not_decreasing : (number : ℕ) (cause : Cause) → AreAllowed w rules → IsFirstRefused w (rules ++ rule_from s t ∷ []) (NotDecreasing number cause) → ¬ IsDecreasing w (rule_from s t)
  not_decreasing number cause allowed f d = go (which rules (rule_from s t) f.place f.rule f.listed)
    where
      go : (slice_get rules f.place ≡ Some f.rule) ⊎ (rule_from s t ≡ f.rule) → ⊥
      go (inl h) = cause_or_decreasing w f.rule cause f.refused.3 (allowed f.place f.rule h).decreasing
      go (inr e) = cause_or_decreasing w f.rule cause f.refused.3 (subst (IsDecreasing w) e d)

  -- and its sides are small
  pub not_too_large : (number : ℕ) → AreAllowed w rules → ops s ≤ 12 → ops t ≤ 12 → IsFirstRefused w (rules ++ rule_from s t ∷ []) (SideTooLarge number) → ⊥
  not_too_large number allowed k l f = go (which rules (rule_from s t) f.place f.rule f.listed)
    where
      go : (slice_get rules f.place ≡ Some f.rule) ⊎ (rule_from s t ≡ f.rule) → ⊥
      go (inl h) = let a = allowed f.place f.rule h in too_large (ops f.rule.left) (ops f.rule.right) f.refused.1 a.left_small a.right_small
      go (inr e) =
          let left_few : ops f.rule.left ≤ 12 = omega (arith, k, left_ops s t, ap (λ (x : Equation). ops x.left) e) in
          let right_few : ops f.rule.right ≤ 12 = omega (arith, l, right_ops s t, ap (λ (x : Equation). ops x.right) e) in
          too_large (ops f.rule.left) (ops f.rule.right) f.refused.1 left_few right_few

  -- so the program's refusals say

  pub refused_rule : (more : List Equation) (x : RulesRefusal) (number : ℕ) (cause : Cause) → more ≡ rules ++ rule_from s t ∷ [] → AreAllowed w rules → x ≡ NotDecreasing number cause → IsRefused w more x → IsInRange w × (¬ IsDecreasing w (rule_from s t))
  refused_rule more x number cause e allowed is h =
      let r = subst (IsRefused w more) is h in
      (r.0, not_decreasing number cause allowed (subst (λ xs. IsFirstRefused w xs (NotDecreasing number cause)) e r.1))

  pub refused_size : (more : List Equation) (x : RulesRefusal) (number : ℕ) → more ≡ rules ++ rule_from s t ∷ [] → AreAllowed w rules → ops s ≤ 12 → ops t ≤ 12 → x ≡ SideTooLarge number → IsRefused w more x → ⊥
  refused_size more x number e allowed k l is h =
      let r = subst (IsRefused w more) is h in
      not_too_large number allowed k l (subst (λ xs. IsFirstRefused w xs (SideTooLarge number)) e r.1)
