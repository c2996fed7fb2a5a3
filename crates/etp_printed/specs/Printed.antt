-- What stands in a session, and the session that its printed ledger is.
use Rattle.std.specs.Prelude.{◌≡◌, ◌⊎◌, ℕ, List, [], All, Bool, false, true, length}
use Rattle.etp_io.specs.Texts.{LineText}
use Rattle.etp_laws.specs.Listing.{IsTheList}
use Rattle.etp_laws.specs.LawLists.{AreDuals}
use Rattle.etp_items.specs.Reading.{IsReadBody}
use Rattle.etp_items.specs.Written.{HasFewLines}
use Rattle.etp_ledger.specs.Files.{File}
use Rattle.etp_ledger.specs.Accepting.{AreAccepted}
use Rattle.etp_show.specs.Printed.{printed_ledger}
use Rattle.etp_desk.specs.States.{Opened, State, unopened, over, filing, stopped}
use Rattle.etp_reply.specs.Shelves.{KnownShelf}
use Rattle.etp_serving.specs.Protocols.{ledger_protocol}
use Rattle.etp_serving.specs.Sessions.{items_of, Session}

-- the body of the file was read from lines
pub record WasRead (count : ℕ) (file : File) : Type 0 where
  pub lines : List LineText
  pub read : IsReadBody count lines true file.body

-- The laws are the list of their order, with their duals; the files were accepted one after another over
-- it, and their bodies were read from lines.
pub record IsKept (o : Opened) : Type 0 where
  pub order_known : (o.laws.order ≡ 4) ⊎ (o.laws.order ≡ 5)
  pub list : IsTheList o.laws.order o.laws.equations
  pub dual_numbers : AreDuals o.laws.equations o.laws.duals
  pub accepted : AreAccepted o.laws.equations o.files
  pub read : All (WasRead (length o.laws.equations)) o.files

-- these laws and files stand in the state; before the first line stands what order 4 has without files
abbrev pub HasState : Opened → State → Type 0
HasState o unopened = (o.laws.order ≡ 4) × (o.files ≡ [])
HasState o (over p) = p ≡ o
HasState o (filing p f) = ⊥
HasState o stopped = ⊥

-- the bytes are a session without a refusal, over any shelf, after which these laws and files stand
abbrev pub GivesAgain : List ℕ → Opened → Type 0
GivesAgain bytes o = (s : KnownShelf) → (text : List ℕ) × (last : State)
    × Session (ledger_protocol s) unopened (items_of bytes) text false last × HasState o last

pub record PrintedTheorems : Type 0 where
  -- what stands after any lines of a session is kept
  pub kept : (s : KnownShelf) (bytes text : List ℕ) (refused : Bool) (o : Opened)
      → Session (ledger_protocol s) unopened (items_of bytes) text refused (over o) → IsKept o
  -- and it stands again after the session that its printed ledger is, where the written form of each
  -- body has no more lines than a body may have
  pub again : (o : Opened) → IsKept o → All (λ file. HasFewLines file.body) o.files
      → GivesAgain (printed_ledger o.laws.order o.files) o
