use Rattle.std.proofs.Common.{◌≡◌, All, vec_len}
use Rattle.etp_bench.specs.Filling.{IsBetweenLaws}
use Rattle.etp_bench.proofs.draws.draw_implications.Given as goal

abbrev pub invariant-loop : goal.invariant-loop
invariant-loop l = record {
  within : All (IsBetweenLaws l.laws) l.drawn.items;
  len : vec_len l.drawn ≡ l.counter;
}
