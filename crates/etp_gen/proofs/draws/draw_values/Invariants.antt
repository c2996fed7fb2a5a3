use Rattle.std.proofs.Common.{◌≡◌, ℕ, ◌+◌, ◌%◌, ◌<◌, length, get_or}
use Rattle.etp_gen.specs.Draws.{draw}
use Rattle.etp_gen.proofs.draws.draw_values.Given as goal

abbrev pub invariant-loop-i : goal.invariant-loop-i
invariant-loop-i l = record {
  after : l.after ≡ draw l.state l.i;
  below : l.after < 65537;
  long : length l.values ≡ 8;
  drawn : (k : ℕ) → k < l.i → get_or l.values k 0 ≡ draw l.state (1 + k) % l.variables;
}
