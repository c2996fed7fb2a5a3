-- How small the laws of the list are.
use Rattle.std.proofs.Common.{◌≡◌, ℕ, ◌≤◌, ◌⊎◌, inl, inr, arith, List, Some}
use Rattle.etp_theory.specs.Trees.{Equation, ops, bound}
use Rattle.etp_theory.specs.LawNumbers.{law_numbered}
use Rattle.etp_laws.specs.Listing.{IsTheList}
use Rattle.etp_laws.proofs.Entries.{Listed-entry, small_entry}
use Rattle.etp_laws.proofs.Variables.{bound-few}

pub record IsSmallLaw (e : Equation) : Type 0 where
  pub left_ops : ops e.left ≤ 5
  pub right_ops : ops e.right ≤ 5
  pub left_variables : bound e.left ≤ 8
  pub right_variables : bound e.right ≤ 8

pub listed_small : (k : ℕ) (xs : List Equation) (n : ℕ) (e : Equation)
    → IsTheList k xs → (k ≡ 4) ⊎ (k ≡ 5) → law_numbered xs n ≡ Some e → IsSmallLaw e
listed_small k xs n e list known h =
    let at_most : k ≤ 5 = by_order known in
    let small = small_entry k xs n e list h in
    let few = bound-few e (Listed-entry k xs n e list h) in
    record { left_ops = omega arith; right_ops = omega arith; left_variables = omega arith; right_variables = omega arith }
  where
    by_order : (k ≡ 4) ⊎ (k ≡ 5) → k ≤ 5
    by_order (inl e) = omega arith
    by_order (inr e) = omega arith
