-- The reply to taking a file out.
use Rattle.std.specs.Prelude.{◌≡◌, ℕ, List, [], ◌∷◌, ◌++◌, Bool, true, codes, slice_get, None, Some}
use Rattle.etp_proof.specs.Names.{IsName}
use Rattle.etp_ledger.specs.Files.{File, Stands, body_named}
use Rattle.etp_ledger.specs.Withdrawing.{IsWithdrawn, IsFirstCiting}
use Rattle.etp_print.specs.Texts.{Reply, answered, refused, reply_text}

-- the reply to taking a file out, and the files that stand then
pub data WithdrawReply (files : List File) (word : List ℕ) (reply : Reply) (after : List File) : Type 0 where
  no_name : (IsName word → ⊥) → reply ≡ refused (codes "bad line") → after ≡ files → WithdrawReply files word reply after
  unknown_name : IsName word → body_named word files ≡ None → reply ≡ refused (codes "no such name " ++ word) → after ≡ files → WithdrawReply files word reply after
  cited : (at : ℕ) (by : File) → IsName word → Stands files word → IsFirstCiting files word at → slice_get files at ≡ Some by
      → reply ≡ refused (codes "cited " ++ word ++ codes " by " ++ by.name) → after ≡ files → WithdrawReply files word reply after
  withdrawn : IsName word → IsWithdrawn files word after → reply ≡ answered (codes "withdrawn " ++ word ++ 10 ∷ []) → WithdrawReply files word reply after

-- it is refused, since the file at this place cites the name
pub record RefusesCited (n : ℕ) (text : List ℕ) (is_refused : Bool) (files : List File) (word : List ℕ) (at : ℕ) : Type 0 where
  pub by : File
  pub stands : slice_get files at ≡ Some by
  pub text_is : text ≡ reply_text n (refused (codes "cited " ++ word ++ codes " by " ++ by.name))
  pub refused_is : is_refused ≡ true
