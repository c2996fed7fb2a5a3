-- What the sessions of a kind are: the states between two lines, and what each line is answered.
use Rattle.std.specs.Prelude.{ℕ, List, Bool}
use Rattle.etp_io.specs.Texts.{LineText}
use Rattle.etp_print.specs.Texts as Texts
use Rattle.etp_desk.specs.States as States
use Rattle.etp_reply.specs.Shelves.{KnownShelf}
use Rattle.etp_reply.specs.Replies as LineReplies

-- the sessions of a kind over a shelf
pub record Protocol : Type 1 where
  -- what is known of the shelf; its limit is that of the source too
  pub shelf : KnownShelf
  -- what stands between two lines: before the first line, and where the text is over
  pub State : Type 0
  pub first : State
  pub stopped : State
  -- a reply, the text that it has for a line of this number, and whether it is a refusal
  pub Reply : Type 0
  pub reply_text : ℕ → Reply → List ℕ
  pub is_refusal : Reply → Bool
  -- line n has this reply and leaves this state
  pub Replies : State → ℕ → LineText → Reply → State → Type 0
  -- the number that its text has: of the line itself, or of an earlier one that it belongs to
  pub answered_line : State → ℕ → ℕ
  -- the line reaches the shelf for this name
  pub Reaches : State → LineText → List ℕ → Type 0
  -- the source ends here, with this reply
  pub Closes : State → Reply → Type 0

-- the sessions of the ledger
abbrev pub ledger_protocol : KnownShelf → Protocol
ledger_protocol s = record {
  shelf = s;
  State = States.State;
  first = States.unopened;
  stopped = States.stopped;
  Reply = Texts.Reply;
  reply_text = Texts.reply_text;
  is_refusal = Texts.is_refusal;
  Replies = LineReplies.Replies s;
  answered_line = LineReplies.answered_line;
  Reaches = LineReplies.Reaches;
  Closes = LineReplies.Closes;
}
