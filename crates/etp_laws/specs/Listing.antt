-- The list of laws (the Equational Theories Project's).
use Rattle.std.specs.Prelude.{◌≡◌, ◌≢◌, ◌⊎◌, ℕ, ◌≤◌, List, Contains, All}
use Rattle.std.specs.List.Sorted.{IsStrictlySortedBy}
use Rattle.std.specs.declared.cmp.Ordering.TheVariants.{Less}
use Rattle.etp_theory.specs.Trees.{var, Equation, law_ops}
use Rattle.etp_theory.specs.Orders.{law_cmp}
use Rattle.etp_theory.specs.Sameness.{Same}

-- `x = x`
abbrev pub reflexive_law : Equation
reflexive_law = record { left = var 0; right = var 0 }

-- its sides differ or it is `x = x`, and no earlier law is the same
pub record Listed (p : Equation) : Type 0 where
  pub sides : (p.left ≢ p.right) ⊎ (p ≡ reflexive_law)
  pub first : (q : Equation) → law_cmp q p ≡ Less → ¬ Same p q

-- the strictly rising list that has exactly the listed laws of at most k operations
pub record IsTheList (k : ℕ) (xs : List Equation) : Type 0 where
  pub rising : IsStrictlySortedBy law_cmp xs
  pub sound : All Listed xs
  pub small : All (λ p. law_ops p ≤ k) xs
  pub complete : (p : Equation) → Listed p → law_ops p ≤ k → Contains xs p
