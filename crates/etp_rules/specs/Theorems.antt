-- A weight and rules are allowed or refused in one way.
use Rattle.std.specs.Prelude.{◌≡◌, List}
use Rattle.etp_theory.specs.Trees.{Equation}
use Rattle.etp_theory.specs.Weights.{Weight}
use Rattle.etp_rules.specs.Deciding.{IsInRange, AreAllowed, IsRefused}
use Rattle.etp_rules.specs.declared.deciding.RulesRefusal.{RulesRefusal}

pub record RulesTheorems : Type 0 where
  pub never_both : (w : Weight) (rules : List Equation) (refusal : RulesRefusal)
      → IsRefused w rules refusal → IsInRange w → AreAllowed w rules → ⊥
  pub one_refusal : (w : Weight) (rules : List Equation) (first second : RulesRefusal)
      → IsRefused w rules first → IsRefused w rules second → first ≡ second
