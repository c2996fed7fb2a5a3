-- What the reply to a line gives: its text, and whether it is a refusal.
use Rattle.std.specs.Prelude.{◌≡◌, ℕ, List, Bool}
use Rattle.etp_ledger.specs.Files.{File}
use Rattle.etp_print.specs.Texts.{Reply, reply_text, is_refusal}

-- a reply of which `Is` holds has this text
pub record Gives (n : ℕ) (text : List ℕ) (refused : Bool) (Is : Reply → Type 0) : Type 0 where
  pub reply : Reply
  pub is : Is reply
  pub text_is : text ≡ reply_text n reply
  pub refused_is : refused ≡ is_refusal reply

-- the same, and files stand after it of which `IsAfter` holds
pub record GivesThen (n : ℕ) (text : List ℕ) (refused : Bool) (Is : Reply → List File → Type 0) (IsAfter : List File → Type 0) : Type 0 where
  pub reply : Reply
  pub files : List File
  pub is : Is reply files
  pub stands : IsAfter files
  pub text_is : text ≡ reply_text n reply
  pub refused_is : refused ≡ is_refusal reply
