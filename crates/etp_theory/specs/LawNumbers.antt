-- Laws by their numbers in a list, and the numbers of their duals.
use Rattle.std.specs.Prelude.{◌≡◌, ℕ, zero, suc, ◌-◌, ◌≤◌, List, length, Option, None, slice_get, slice_index}
use Rattle.etp_theory.specs.Trees.{Equation}

-- law n, counted from 1
abbrev pub law_numbered : List Equation → ℕ → Option Equation
law_numbered laws zero = None
law_numbered laws (suc k) = slice_get laws k

-- one of the laws 1 to n
pub record IsLaw (laws law : ℕ) : Type 0 where
  pub from_one : 1 ≤ law
  pub to_last : law ≤ laws

-- the number of a law's dual: the list has at place n - 1 the number of the dual of law n
abbrev pub dual_number : List ℕ → ℕ → ℕ
dual_number duals n = slice_index duals (n - 1)

-- the list names one of its laws for each law, and that one's is the first again
pub record IsOwnInverse (duals : List ℕ) : Type 0 where
  pub within : (law : ℕ) → IsLaw (length duals) law → IsLaw (length duals) (dual_number duals law)
  pub twice : (law : ℕ) → IsLaw (length duals) law → dual_number duals (dual_number duals law) ≡ law
