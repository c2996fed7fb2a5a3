-- Files that are read from the shelf.
use Rattle.std.specs.Prelude.{ℕ, ◌+◌, ◌-◌, ◌^◌, ◌≤◌, min, List, ◌++◌}
use Rattle.etp_io.specs.Texts.{LineText}
use Rattle.etp_desk.specs.States as States
use Rattle.etp_desk.specs.States.{State}
use Rattle.etp_reply.specs.Shelves.{KnownShelf, IsLoaded, IsTooLong}
use Rattle.etp_reply.specs.Replies.{Reaches}
use Rattle.etp_filing.specs.Filings.{IsFiling}
use Rattle.etp_desk.specs.declared.opened.Opened.{Opened}
use Rattle.etp_filing.specs.declared.filing.Filing.{Filing}

-- a file with body lines more
abbrev pub with_lines : States.Filing → List LineText → States.Filing
with_lines g lines = record { number = g.number; word = g.word; lines = g.lines ++ lines }

-- the lines of a name on the shelf were added to a file that is read
pub record LoadedLines (s : KnownShelf) (name : List ℕ) (before now : Filing) : Type 0 where
  pub lines : List LineText
  pub loaded : IsLoaded s name lines
  pub pending : (o : Opened) (g : States.Filing) → IsFiling o before g → IsFiling o now (with_lines g lines)

-- the line loads a name that has too many bytes, of which one more than the limit were taken
pub record LoadsLong (s : KnownShelf) (before : State) (line : LineText) (shelf_gave shelf_gave_after : ℕ) : Type 0 where
  pub name : List ℕ
  pub reaches : Reaches before line name
  pub long : IsTooLong s name
  pub risen : min (shelf_gave + (s.limit + 1)) (2 ^ 64 - 1) ≤ shelf_gave_after
