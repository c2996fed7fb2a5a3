-- What a session keeps between two lines, and the state that it stands for.
use Rattle.std.specs.Prelude.{◌≡◌, ℕ, List, IfSome, None, Some}
use Rattle.std.specs.declared.option.Option.{Option}
use Rattle.etp_io.specs.Texts.{LineText}
use Rattle.etp_desk.specs.States as States
use Rattle.etp_desk.specs.States.{State, unopened, over, filing}
use Rattle.etp_desk.specs.Desks.{opened_of, Agrees}
use Rattle.etp_desk.specs.declared.opened.Opened.{Opened}
use Rattle.etp_filing.specs.FileReplies.{HasFreeName}
use Rattle.etp_filing.specs.Filings.{IsFiling, loading}
use Rattle.etp_filing.specs.declared.filing.Filing.{Filing}
use Rattle.etp_reply.specs.declared.desk.Desk.{Desk}

abbrev pub IsStage : Option Opened → Option Filing → State → Type 0
IsStage None None state = state ≡ unopened
IsStage None (Some f) state = ⊥
IsStage (Some o) None state = state ≡ over (opened_of o)
IsStage (Some o) (Some f) state = (g : States.Filing) × IsFiling o f g × (state ≡ filing (opened_of o) g)

abbrev pub IsDesk : Desk → State → Type 0
IsDesk d state = IsStage d.opened d.filing state

-- where the laws stand, they are their order's list and the ledger is over them
abbrev pub HasRightLaws : Desk → Type 0
HasRightLaws d = IfSome d.opened Agrees

-- it stands for a state
pub record IsSound (d : Desk) : Type 0 where
  pub state : State
  pub stands : IsDesk d state
  pub laws : HasRightLaws d

-- The laws stand, no body is read within the session, and the file is one that line n loads under
-- this free name, with these body lines so far.
pub record IsLoading (d : Desk) (n : ℕ) (name : List ℕ) (lines : List LineText) (f : Filing) : Type 0 where
  pub opened : Opened
  pub stands : d.opened ≡ Some opened
  pub no_body : d.filing ≡ None
  pub free : HasFreeName opened.ledger.files (Some name) name
  pub pending : IsFiling opened f (loading n name lines)
