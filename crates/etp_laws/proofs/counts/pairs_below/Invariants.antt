use Rattle.std.proofs.Common.{◌≡◌, ◌*◌, ◌≤◌}
use Rattle.etp_laws.specs.Places.{pairs_below}
use Rattle.etp_laws.proofs.counts.pairs_below.Given as goal

abbrev pub invariant-loop-i : goal.invariant-loop-i
invariant-loop-i l = record {
  value : l.pairs ≡ pairs_below l.ops l.i;
  small : l.pairs ≤ 1764 * l.i;
}
