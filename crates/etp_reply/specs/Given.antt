-- What the reply to a line gives: its text, and the state after it.
use Rattle.std.specs.Prelude.{◌≡◌, ◌≢◌, ℕ, List, Bool, ◌||◌}
use Rattle.etp_io.specs.Texts.{LineText}
use Rattle.etp_print.specs.Texts.{Reply, reply_text, is_refusal}
use Rattle.etp_desk.specs.States.{State, stopped}
use Rattle.etp_reply.specs.Shelves.{KnownShelf}
use Rattle.etp_reply.specs.Replies.{Replies, Closes, answered_line}

-- the reply has this text and leaves a state of which `IsAfter` holds
pub record GivesState (n : ℕ) (text : List ℕ) (refused : Bool) (IsReply : Reply → State → Type 0) (IsAfter : State → Type 0) : Type 0 where
  pub reply : Reply
  pub after : State
  pub replies : IsReply reply after
  pub stands : IsAfter after
  pub text_is : text ≡ reply_text n reply
  pub refused_is : refused ≡ is_refusal reply

-- so has the reply to line n
abbrev pub GivesReply : KnownShelf → State → ℕ → LineText → List ℕ → Bool → (State → Type 0) → Type 0
GivesReply s before n line text is_refused IsAfter = GivesState (answered_line before n) text is_refused (Replies s before n line) IsAfter

-- the reply at the end of the source has this text; `bad`: a line was refused before or is by it
pub record GivesClose (last : State) (bad_before : Bool) (text : List ℕ) (bad : Bool) : Type 0 where
  pub reply : Reply
  pub closes : Closes last reply
  pub all_there : last ≢ stopped
  pub text_is : text ≡ reply_text (answered_line last 0) reply
  pub bad_is : bad ≡ (bad_before || is_refusal reply)
