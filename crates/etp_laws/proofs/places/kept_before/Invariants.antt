use Rattle.std.proofs.Common.{◌≡◌, ◌≤◌, ◌+◌, length, filter, take}
use Rattle.etp_laws.specs.Enumeration.{words, is_kept}
use Rattle.etp_laws.proofs.places.kept_before.Given as goal

abbrev pub invariant-loop-place : goal.invariant-loop-place
invariant-loop-place l = record {
  kept : l.kept ≡ length (filter (is_kept l.middle) (take l.place (words (l.middle + l.middle) 0)));
  fewer : l.kept ≤ l.place;
}
