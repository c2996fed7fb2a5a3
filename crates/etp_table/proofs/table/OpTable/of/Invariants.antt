use Rattle.std.proofs.Common.{◌≡◌, ◌<◌, ℕ, get_or, take}
use Rattle.etp_table.proofs.table.OpTable.of.Given as goal

abbrev pub invariant-loop-place : goal.invariant-loop-place
invariant-loop-place l =
    (l.bytes.items ≡ take l.place l.entries) × ((k : ℕ) → k < l.place → get_or l.entries k 0 < l.size)
