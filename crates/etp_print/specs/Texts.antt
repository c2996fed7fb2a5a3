-- Replies, and the lines that they write.
use Rattle.std.specs.Prelude.{ℕ, List, [], ◌∷◌, ◌++◌, Bool, true, false, codes, decimal}

pub data Reply : Type 0 where
  silent : Reply
  answered : List ℕ → Reply
  refused : List ℕ → Reply

-- a refusal of a file's content
abbrev pub refused_file : List ℕ → List ℕ → Reply
refused_file name why = refused (name ++ codes ": " ++ why)

-- the lines that are written for the request of line n
abbrev pub reply_text : ℕ → Reply → List ℕ
reply_text n silent = []
reply_text n (answered text) = text
reply_text n (refused why) = codes "refused " ++ decimal n ++ codes ": " ++ why ++ 10 ∷ []

abbrev pub is_refusal : Reply → Bool
is_refusal (refused why) = true
is_refusal _ = false
