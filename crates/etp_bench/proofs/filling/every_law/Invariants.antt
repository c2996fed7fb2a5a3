use Rattle.std.proofs.Common.{ℕ, All, Contains}
use Rattle.etp_theory.specs.LawNumbers.{IsLaw}
use Rattle.etp_bench.proofs.filling.every_law.Given as goal

abbrev pub invariant-loop-place : goal.invariant-loop-place
invariant-loop-place l = record {
  within : All (IsLaw l.count) l.every.items;
  all : (law : ℕ) → IsLaw l.place law → Contains l.every.items law;
}
