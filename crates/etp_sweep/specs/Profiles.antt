-- All laws of a list that hold in a table.
use Rattle.std.specs.Prelude.{◌≡◌, ◌↔◌, ◌==◌, ℕ, ◌<◌, List, Contains, Some, cond}
use Rattle.std.specs.List.Sorted.{IsStrictlyIncreasing}
use Rattle.etp_theory.specs.Trees.{Equation}
use Rattle.etp_theory.specs.LawNumbers.{law_numbered}
use Rattle.etp_table.specs.Tables.{Table}
use Rattle.etp_table.specs.Verdicts.{HoldsIn}
use Rattle.etp_sweep.specs.declared.refusal.SweepRefusal.{SweepRefusal}
use Rattle.etp_sweep.specs.declared.refusal.SweepRefusal.TheVariants.{ProfileSize}

-- there is a law n, and it holds in the table
pub record LawHoldsIn (laws : List Equation) (t : Table) (n : ℕ) : Type 0 where
  pub law : Equation
  pub listed : law_numbered laws n ≡ Some law
  pub holds : HoldsIn t law

-- the rising list of the numbers of exactly the laws that hold
pub record IsProfile (laws : List Equation) (t : Table) (numbers : List ℕ) : Type 0 where
  pub rising : IsStrictlyIncreasing numbers
  pub exact : (n : ℕ) → Contains numbers n ↔ LawHoldsIn laws t n

-- the greatest size of a table that has a profile, by the greatest number of operations
abbrev pub greatest_size : ℕ → ℕ
greatest_size order = cond (order == 5) 10 16

-- the table is greater than that, and the refusal has its size
abbrev pub IsTooLarge : ℕ → Table → SweepRefusal → Type 0
IsTooLarge order t (ProfileSize size) = (size ≡ t.size) × (greatest_size order < t.size)
IsTooLarge order t _ = ⊥
