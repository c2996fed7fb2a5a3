-- What a line comes to: a reply, or a file that is on the shelf.
use Rattle.std.specs.Prelude.{◌≡◌, ℕ, List, []}
use Rattle.etp_io.specs.Texts.{LineText}
use Rattle.etp_print.specs.Texts.{Reply}
use Rattle.etp_desk.specs.States.{State}
use Rattle.etp_desk.specs.Desks.{opened_of}
use Rattle.etp_filing.specs.declared.filing.Filing.{Filing}
use Rattle.etp_reply.specs.Shelves.{KnownShelf}
use Rattle.etp_reply.specs.Replies.{LoadReply, Replies, Reaches, answered_line}
use Rattle.etp_reply.specs.Given.{GivesState}
use Rattle.etp_reply.specs.Desks.{IsDesk, IsLoading}
use Rattle.etp_reply.specs.declared.desk.Desk.{Desk}
use Rattle.etp_reply.specs.declared.reply.Outcome.{Outcome}
use Rattle.etp_reply.specs.declared.reply.Outcome.TheVariants.{Replied, Loads}

-- Line n loads the name, and nothing of it was read or written. A reply to the load, over the laws and
-- files that stand, is a reply to the line.
pub record LoadsFile (s : KnownShelf) (n : ℕ) (name : List ℕ) (desk : Desk) (f : Filing) (text : List ℕ) (IsReply : Reply → State → Type 0) (IsLoad : List ℕ → Type 0) : Type 0 where
  pub none_yet : text ≡ []
  pub load : IsLoad name
  pub loading : IsLoading desk n name [] f
  pub replies : (reply : Reply) (after : State) → LoadReply s (opened_of loading.opened) n name reply after → IsReply reply after

abbrev pub IsOutcome : KnownShelf → ℕ → List ℕ → Desk → (Reply → State → Type 0) → (List ℕ → Type 0) → Outcome → Type 0
IsOutcome s n text desk IsReply IsLoad (Replied refused) = GivesState n text refused IsReply (IsDesk desk)
IsOutcome s n text desk IsReply IsLoad (Loads name f) = LoadsFile s n name.now desk f text IsReply IsLoad

-- what line n comes to
abbrev pub LineOutcome : KnownShelf → State → ℕ → LineText → List ℕ → Desk → Outcome → Type 0
LineOutcome s state n line text desk outcome = IsOutcome s (answered_line state n) text desk (Replies s state n line) (Reaches state line) outcome
