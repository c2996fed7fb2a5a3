use Rattle.std.proofs.Common.{◌≡◌, All, vec_len}
use Rattle.etp_theory.specs.LawNumbers.{IsLaw}
use Rattle.etp_bench.proofs.draws.draw_laws.Given as goal

abbrev pub invariant-loop : goal.invariant-loop
invariant-loop l = record {
  within : All (IsLaw l.laws) l.drawn.items;
  len : vec_len l.drawn ≡ l.counter;
}
