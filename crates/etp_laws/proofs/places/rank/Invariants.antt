use Rattle.std.proofs.Common.{◌≡◌, ◌≤◌, ◌+◌, drop}
use Rattle.etp_laws.specs.Places.{rank}
use Rattle.etp_laws.proofs.places.rank.Given as goal

abbrev pub invariant-loop-i : goal.invariant-loop-i
invariant-loop-i l = record {
  sum : l.before + rank l.used (drop l.i l.word) ≡ rank 0 l.word;
  few : l.used ≤ l.i;
}
