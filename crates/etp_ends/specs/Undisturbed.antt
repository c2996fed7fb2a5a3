-- Sessions that nothing outside ends early.
use Rattle.std.specs.Prelude.{ℕ, ◌+◌, ◌-◌, ◌^◌, ◌≤◌, min, List, Bool, true, false}
use Rattle.etp_io.specs.Causes.{Rose}
use Rattle.etp_reply.specs.Shelves.{IsTooLong}
use Rattle.etp_serving.specs.Streams.{Streams}
use Rattle.etp_serving.specs.Protocols.{Protocol}
use Rattle.etp_serving.specs.Ends.{Takes}

-- one byte more than the limit was taken of the source
abbrev pub SourcePasses : {H : Type 0} → Protocol → Streams H → Streams H → Type 0
SourcePasses p old new =
    Takes old.source.left new.source.left old.source.given new.source.given (p.shelf.limit + 1)

-- some name has more bytes than the limit, and as many were taken of the shelf
abbrev pub NamePasses : {H : Type 0} → Protocol → Streams H → Streams H → Type 0
NamePasses p old new = ((name : List ℕ) × IsTooLong p.shelf name)
    × (min (old.shelf.given + (p.shelf.limit + 1)) (2 ^ 64 - 1) ≤ new.shelf.given)

-- no count of faults rose, and no stream passed its limit
pub record IsUndisturbed {H : Type 0} (p : Protocol) (old new : Streams H) : Type 0 where
  pub source_reads : Rose old.source.faults new.source.faults → ⊥
  pub shelf_reads : Rose old.shelf.faults new.shelf.faults → ⊥
  pub sink_writes : Rose old.sink.faults new.sink.faults → ⊥
  pub source_within : SourcePasses p old new → ⊥
  pub names_within : NamePasses p old new → ⊥

-- the status of a session whose text was written, with a refusal line or without
abbrev pub status_for : Bool → ℕ
status_for false = 0
status_for true = 1
