-- How a session ends: what each status says of the streams before it and after it.
use Rattle.std.specs.Prelude.{◌≡◌, ◌≢◌, ℕ, ◌+◌, ◌-◌, ◌≤◌, ◌⊎◌, true, false, IfSome}
use Rattle.etp_io.specs.Causes.{Rose}
use Rattle.etp_serving.specs.Streams.{Streams}
use Rattle.etp_serving.specs.Protocols.{Protocol}
use Rattle.etp_serving.specs.Sessions.{ReachesShelf}
use Rattle.etp_serving.specs.Ends.{EndsWell, WritesPrefix, WritesWholeLines, Takes, TakesWithin, StopsAtFault, StopsAtName, StopsAtLong}

-- a read of the source failed, and the lines that stand whole in the bytes taken were answered
abbrev pub EndsAtFault : {H : Type 0} → Protocol → Streams H → Streams H → Type 0
EndsAtFault p old new = Rose old.source.faults new.source.faults
    × StopsAtFault p old.source.left new.source.left old.sink.took new.sink.took
    old.source.given new.source.given

-- a read of the shelf failed in a `load` of the name that failed last, and the lines before it were
-- answered
abbrev pub EndsAtName : {H : Type 0} → Protocol → Streams H → Streams H → Type 0
EndsAtName p old new = Rose old.shelf.faults new.shelf.faults
    × StopsAtName p old.source.left new.source.left old.sink.took new.sink.took
    old.source.given new.source.given new.shelf.failed_name

-- one byte more than the limit was taken of the source, and the lines that stand whole in the bytes
-- before the last read were answered
abbrev pub EndsPastLimit : {H : Type 0} → Protocol → Streams H → Streams H → Type 0
EndsPastLimit p old new =
    Takes old.source.left new.source.left old.source.given new.source.given (p.shelf.limit + 1)
    × WritesWholeLines p old.source.left old.sink.took new.sink.took
    (p.shelf.limit + 1 - new.source.last)

-- so many were taken of a name in a `load`, and the lines before it were answered
abbrev pub EndsAtLong : {H : Type 0} → Protocol → Streams H → Streams H → Type 0
EndsAtLong p old new =
    StopsAtLong p old.source.left new.source.left old.sink.took new.sink.took
    old.source.given new.source.given old.shelf.given new.shelf.given

-- the shelf is as it was, unless the `load` of some line reaches it
abbrev pub LeavesShelf : {H : Type 0} → Protocol → Streams H → Streams H → Type 0
LeavesShelf p old new =
    IfSome old.source.left (λ bytes. (new.itself ≡ old.itself) ⊎ ReachesShelf p bytes)

-- What the status of a session says, which has the shelf's limit for the source too. At 0 and 1 all
-- was read and the whole text was written, at 1 with a refusal line; at 4 and 5 a prefix was.
pub record SessionEnds {H : Type 0} (p : Protocol) (old new : Streams H) (status : ℕ) : Type 0 where
  pub well : status ≡ 0
      → EndsWell p old.source.left new.source.left old.sink.took new.sink.took new.source.last false
  pub refused : status ≡ 1
      → EndsWell p old.source.left new.source.left old.sink.took new.sink.took new.source.last true
  pub read : status ≡ 3 → EndsAtFault p old new ⊎ EndsAtName p old new
  pub write : status ≡ 4 → Rose old.sink.faults new.sink.faults
      × WritesPrefix p old.source.left old.sink.took new.sink.took
  pub memory : status ≡ 5 → WritesPrefix p old.source.left old.sink.took new.sink.took
  pub too_much : status ≡ 6 → EndsPastLimit p old new ⊎ EndsAtLong p old new
  pub within : status ≢ 6
      → TakesWithin old.source.left new.source.left old.source.given new.source.given p.shelf.limit
  pub keeps : new.shelf.keeps ≡ old.shelf.keeps
  pub untouched : LeavesShelf p old new
  pub statuses : (status ≤ 6) × (status ≢ 2)
