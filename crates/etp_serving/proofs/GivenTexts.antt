-- What a line and the end of the source give in a session, and that the ledger's give it.
use Rattle.std.proofs.Common.{◌≡◌, ◌≢◌, ℕ, List, Option, Bool, ◌||◌}
use Rattle.std.specs.Io.KnownBytes.{Appends}
use Rattle.etp_io.specs.Stream.{IsPrefix}
use Rattle.etp_io.specs.Texts.{LineText}
use Rattle.etp_desk.specs.States.{State}
use Rattle.etp_reply.specs.Shelves.{KnownShelf}
use Rattle.etp_reply.specs.Given.{GivesReply}
use Rattle.etp_serving.specs.Protocols.{Protocol, ledger_protocol}
use Rattle.etp_serving.specs.Endings.{WritesClose, WritesSomeOfClose}

-- the reply to line n has this text and leaves a state of which `IsAfter` holds
pub record GivesLine (p : Protocol) (before : p.State) (n : ℕ) (line : LineText) (text : List ℕ) (bad : Bool) (IsAfter : p.State → Type 0) : Type 0 where
  pub reply : p.Reply
  pub after : p.State
  pub replies : p.Replies before n line reply after
  pub stands : IsAfter after
  pub text_is : text ≡ p.reply_text (p.answered_line before n) reply
  pub refused_is : bad ≡ p.is_refusal reply

-- the reply at the end of the source has this text; `bad`: a line was refused before or is by it
pub record GivesEnd (p : Protocol) (last : p.State) (bad_before : Bool) (text : List ℕ) (bad : Bool) : Type 0 where
  pub reply : p.Reply
  pub closes : p.Closes last reply
  pub all_there : last ≢ p.stopped
  pub text_is : text ≡ p.reply_text (p.answered_line last 0) reply
  pub bad_is : bad ≡ (bad_before || p.is_refusal reply)

-- it was written
pub record ClosesText (p : Protocol) (last : p.State) (bad_before : Bool) (took_before took_after : Option (List ℕ)) (bad : Bool) : Type 0 where
  pub text : List ℕ
  pub written : Appends took_before took_after text
  pub gives : GivesEnd p last bad_before text bad

-- a prefix of it was written
pub record ClosesSome (p : Protocol) (last : p.State) (bad_before : Bool) (took_before took_after : Option (List ℕ)) : Type 0 where
  pub text : List ℕ
  pub front : List ℕ
  pub bad : Bool
  pub written : Appends took_before took_after front
  pub gives : GivesEnd p last bad_before text bad
  pub prefix : IsPrefix front text

pub gives-line : (s : KnownShelf) (before : State) (n : ℕ) (line : LineText) (text : List ℕ) (bad : Bool) (IsAfter : State → Type 0)
    → GivesReply s before n line text bad IsAfter → GivesLine (ledger_protocol s) before n line text bad IsAfter
gives-line s before n line text bad IsAfter h = record {
  reply = h.reply;
  after = h.after;
  replies = h.replies;
  stands = h.stands;
  text_is = h.text_is;
  refused_is = h.refused_is;
}

pub closes-text : (s : KnownShelf) (last : State) (before : Bool) (took0 took : Option (List ℕ)) (bad : Bool)
    → WritesClose last before took0 took bad → ClosesText (ledger_protocol s) last before took0 took bad
closes-text s last before took0 took bad h = record {
  text = h.text;
  written = h.written;
  gives = record { reply = h.gives.reply; closes = h.gives.closes; all_there = h.gives.all_there; text_is = h.gives.text_is; bad_is = h.gives.bad_is };
}

pub closes-some : (s : KnownShelf) (last : State) (before : Bool) (took0 took : Option (List ℕ))
    → WritesSomeOfClose last before took0 took → ClosesSome (ledger_protocol s) last before took0 took
closes-some s last before took0 took h = record {
  text = h.text;
  front = h.front;
  bad = h.bad;
  written = h.written;
  gives = record { reply = h.gives.reply; closes = h.gives.closes; all_there = h.gives.all_there; text_is = h.gives.text_is; bad_is = h.gives.bad_is };
  prefix = h.prefix;
}
