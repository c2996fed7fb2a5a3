-- A valid file with a free name has one reply: that it is accepted.
use Rattle.std.specs.Prelude.{◌≡◌, List, [], ◌∷◌, ◌++◌, ℕ, length, true}
use Rattle.etp_laws.specs.Listing.{IsTheList}
use Rattle.etp_items.specs.Bodies.{FileBody}
use Rattle.etp_items.specs.Reading.{IsReadBody}
use Rattle.etp_check.specs.Checks.{fact_said}
use Rattle.etp_ledger.specs.Files.{File}
use Rattle.etp_ledger.specs.Accepting.{IsValidOver}
use Rattle.etp_print.specs.Texts.{Reply, answered}
use Rattle.etp_desk.specs.States.{Opened, Filing}
use Rattle.etp_filing.specs.FileReplies.{FileReply, HasFreeName, accepted_line}

-- the name is free, the lines that `end` closes are this body, and it is valid over the files that stand
pub record IsValidFile (o : Opened) (f : Filing) (name : List ℕ) (body : FileBody) : Type 0 where
  pub free : HasFreeName o.files f.word name
  pub read : IsReadBody (length o.laws.equations) f.lines true body
  pub valid : IsValidOver o.laws.equations o.files body

pub record CompletenessTheorems : Type 0 where
  -- every reply to such a file says that it is accepted, and then it stands last
  pub accepted : (o : Opened) (f : Filing) (name : List ℕ) (body : FileBody) (reply : Reply) (after : List File)
      → IsTheList o.laws.order o.laws.equations → IsValidFile o f name body → FileReply o f true reply after
      → (reply ≡ answered (accepted_line name (fact_said body)))
      × (after ≡ o.files ++ record { name = name; body = body } ∷ [])
