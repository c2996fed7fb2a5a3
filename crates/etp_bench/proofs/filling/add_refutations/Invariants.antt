use Rattle.std.proofs.Common.{◌≡◌, All, length}
use Rattle.etp_theory.specs.LawNumbers.{IsLaw}
use Rattle.etp_bench.proofs.filling.add_refutations.Given as goal

abbrev pub invariant-loop : goal.invariant-loop
invariant-loop l = record {
  duals : l.closure.duals ≡ l.initial.closure.duals;
  slots : l.closure.slots ≡ l.initial.closure.slots;
  rest : All (IsLaw (length l.initial.closure.duals)) l.rest;
}
