-- How much of a reply was written, and how a session ends.
use Rattle.std.specs.Prelude.{ℕ, List, [], Bool, true, false, None}
use Rattle.std.specs.declared.option.Option.{Option}
use Rattle.std.specs.Io.KnownBytes.{Appends}
use Rattle.etp_io.specs.Reader.{Reader}
use Rattle.etp_io.specs.declared.lines.Next.{Next}
use Rattle.etp_io.specs.declared.lines.Next.TheVariants.{Line, Long, End}
use Rattle.etp_io.specs.Stream.{IsPrefix}
use Rattle.etp_io.specs.Texts.{LineText, whole, too_long}
use Rattle.etp_serving.specs.declared.serving.Ending.{Ending}
use Rattle.etp_serving.specs.declared.serving.Ending.TheVariants.{Done, ReadFault, WriteFault, NoMemory, TooMuch}
use Rattle.etp_desk.specs.States.{State}
use Rattle.etp_reply.specs.Given.{GivesClose}

-- a reader that has read nothing
abbrev pub unread : ℕ → Reader
unread limit =
    record { limit = limit; taken = 0; number = 0; held = []; line = []; ended = false; fault = None }

-- the line that was read
abbrev pub line_text : Next → List ℕ → LineText
line_text Line line = whole line
line_text Long line = too_long
line_text End line = too_long

-- nothing of a reply was written
pub record WritesNothing (took_before took_after : Option (List ℕ)) : Type 0 where
  pub written : Appends took_before took_after []

-- the reply at the end of the source was written
pub record WritesClose (last : State) (bad_before : Bool) (took_before took_after : Option (List ℕ)) (bad : Bool) : Type 0 where
  pub text : List ℕ
  pub written : Appends took_before took_after text
  pub gives : GivesClose last bad_before text bad

-- a prefix of it was written
pub record WritesSomeOfClose (last : State) (bad_before : Bool) (took_before took_after : Option (List ℕ)) : Type 0 where
  pub text : List ℕ
  pub front : List ℕ
  pub bad : Bool
  pub written : Appends took_before took_after front
  pub gives : GivesClose last bad_before text bad
  pub prefix : IsPrefix front text

abbrev pub status_of : Ending → ℕ
status_of (Done false) = 0
status_of (Done true) = 1
status_of ReadFault = 3
status_of WriteFault = 4
status_of NoMemory = 5
status_of TooMuch = 6

-- a fact of an end at which all was read and written
abbrev pub IsDone : Ending → (Bool → Type 0) → Type 0
IsDone (Done bad) P = P bad
IsDone ReadFault P = Unit {0}
IsDone WriteFault P = Unit {0}
IsDone NoMemory P = Unit {0}
IsDone TooMuch P = Unit {0}

-- an end that a reply may come to
abbrev pub IsEnd : Ending → Type 0
IsEnd (Done bad) = Unit {0}
IsEnd WriteFault = Unit {0}
IsEnd NoMemory = Unit {0}
IsEnd ReadFault = ⊥
IsEnd TooMuch = ⊥
