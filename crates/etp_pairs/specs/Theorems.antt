-- A place has one critical pair, and a system one refusal.
use Rattle.std.specs.Prelude.{◌≡◌, ◌≢◌, ℕ, List, Option}
use Rattle.etp_theory.specs.Trees.{Equation}
use Rattle.etp_theory.specs.Positions.{Side}
use Rattle.etp_theory.specs.Weights.{Weight, AllDecrease}
use Rattle.etp_theory.specs.Overlaps.{IsConvergent}
use Rattle.etp_pairs.specs.Pairs.{IsPair}
use Rattle.etp_pairs.specs.Refusals.{IsRefused}
use Rattle.etp_pairs.specs.declared.pairing.CriticalPair.{CriticalPair}
use Rattle.etp_pairs.specs.declared.refusal.PairsRefusal.{PairsRefusal}
use Rattle.etp_pairs.specs.declared.refusal.PairsRefusal.TheVariants.{NoMemory}

pub record PairsTheorems : Type 0 where
  -- a place has one critical pair with its variables numbered as they come, or none
  pub one_pair : (rules : List Equation) (outer : ℕ) (position : List Side) (inner : ℕ)
      (a b : Option CriticalPair) → IsPair rules outer position inner a
      → IsPair rules outer position inner b → a ≡ b
  -- a convergent system is refused for want of memory alone
  pub not_both : (w : Weight) (rules : List Equation) (r : PairsRefusal) → IsConvergent w rules
      → IsRefused rules r → r ≡ NoMemory
  -- and a system of decreasing rules has one other refusal at most
  pub one_refusal : (w : Weight) (rules : List Equation) (r s : PairsRefusal) → AllDecrease w rules
      → IsRefused rules r → IsRefused rules s → r ≢ NoMemory → s ≢ NoMemory → r ≡ s
