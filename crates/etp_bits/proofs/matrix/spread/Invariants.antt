use Rattle.std.proofs.Common.{◌≡◌, ◌*◌, vec_len}
use Rattle.etp_bits.specs.Words.{Spreads}
use Rattle.etp_bits.proofs.matrix.spread.Given as goal

abbrev pub invariant-loop-row : goal.invariant-loop-row
invariant-loop-row l = record {
  size : vec_len l.spread ≡ l.row * l.wider;
  spread_out : Spreads l.words l.spread.items l.row l.stride l.wider;
}
