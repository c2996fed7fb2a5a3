use Rattle.std.proofs.Common.{◌≡◌, ◌++◌, List, map, take}
use Rattle.etp_theory.specs.Reach.{Fact}
use Rattle.etp_closure.specs.Closures.{StandsFor}
use Rattle.etp_bench.specs.Filling.{fact_of}
use Rattle.etp_bench.proofs.filling.add_implications.Given as goal

abbrev pub invariant-loop-implication : goal.invariant-loop-implication
invariant-loop-implication l = record {
  duals : l.closure.duals ≡ l.initial.closure.duals;
  slots : l.closure.slots ≡ l.initial.closure.slots;
  stands : (facts : List Fact) → StandsFor l.initial.closure facts → StandsFor l.closure (facts ++ map fact_of (take l.implication-index l.implications));
}
