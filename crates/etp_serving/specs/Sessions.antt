-- The text of a session.
use Rattle.std.specs.Prelude.{◌≡◌, ◌≢◌, ℕ, ◌+◌, ◌≤◌, List, [], ◌∷◌, ◌++◌, length, Bool, false, ◌||◌}
use Rattle.etp_io.specs.Texts.{LineText, lines_of}
use Rattle.etp_io.specs.Stream.{IsPrefix}
use Rattle.etp_serving.specs.Protocols.{Protocol}

-- a line and its number, counted from 1
pub record Item : Type 0 where
  pub number : ℕ
  pub line : LineText

-- the lines, numbered from n on
abbrev pub items_from : ℕ → List LineText → List Item
items_from n [] = []
items_from n (line ∷ lines) = record { number = n; line = line } ∷ items_from (n + 1) lines

abbrev pub items_of : List ℕ → List Item
items_of bytes = items_from 1 (lines_of bytes)

-- these lines, from this state on, give this text, with a refusal or without, and leave this state
abbrev pub Session : (p : Protocol) → p.State → List Item → List ℕ → Bool → p.State → Type 0
Session p first [] text refused last = (text ≡ []) × (refused ≡ false) × (last ≡ first)
Session p first (item ∷ items) text refused last =
    (reply : p.Reply) × (middle : p.State) × (rest : List ℕ) × (also : Bool)
    × p.Replies first item.number item.line reply middle × Session p middle items rest also last
    × (text ≡ p.reply_text (p.answered_line first item.number) reply ++ rest)
    × (refused ≡ (p.is_refusal reply || also))

-- the text of the commands whose lines stand whole in these bytes; a file whose `end` doesn't stand
-- in them isn't answered
pub record AnswersLines (p : Protocol) (bytes text : List ℕ) (refused : Bool) : Type 0 where
  pub last : p.State
  pub session : Session p p.first (items_of bytes) text refused last

-- The whole text of a session over these bytes and this shelf, with a refusal line or without. It
-- ends before the first `load` whose name isn't there.
pub record IsSession (p : Protocol) (bytes text : List ℕ) (refused : Bool) : Type 0 where
  pub front : List ℕ
  pub some : Bool
  pub last : p.State
  pub session : Session p p.first (items_of bytes) front some last
  pub reply : p.Reply
  pub closes : p.Closes last reply
  pub text_is : text ≡ front ++ p.reply_text (p.answered_line last 0) reply
  pub refused_is : refused ≡ (some || p.is_refusal reply)

-- it is, and each name that a `load` reaches is there
pub record IsWholeSession (p : Protocol) (bytes text : List ℕ) (refused : Bool) : Type 0 where
  pub session : IsSession p bytes text refused
  pub all_there : session.last ≢ p.stopped

-- The `load` of some line reaches the shelf for this name, and the text is that of the lines
-- before. The line stands whole in the first n bytes.
pub record StopsAtLoad (p : Protocol) (bytes : List ℕ) (n : ℕ) (name text : List ℕ) : Type 0 where
  pub done : List Item
  pub item : Item
  pub left : List Item
  pub items : items_of bytes ≡ done ++ item ∷ left
  pub part : List ℕ
  pub rest : List ℕ
  pub joined : bytes ≡ part ++ rest
  pub within : length part ≤ n
  pub lines : items_of part ≡ done ++ item ∷ []
  pub refused : Bool
  pub last : p.State
  pub session : Session p p.first done text refused last
  pub reaches : p.Reaches last item.line name

-- the `load` of some line reaches the shelf
pub record ReachesShelf (p : Protocol) (bytes : List ℕ) : Type 0 where
  pub count : ℕ
  pub name : List ℕ
  pub text : List ℕ
  pub stops : StopsAtLoad p bytes count name text

-- a prefix of the text of the first lines
pub record BeginsInLines (p : Protocol) (bytes written : List ℕ) : Type 0 where
  pub done : List Item
  pub left : List Item
  pub items : items_of bytes ≡ done ++ left
  pub text : List ℕ
  pub refused : Bool
  pub last : p.State
  pub session : Session p p.first done text refused last
  pub prefix : IsPrefix written text

-- a prefix of the whole text
pub record BeginsText (p : Protocol) (bytes written : List ℕ) : Type 0 where
  pub text : List ℕ
  pub refused : Bool
  pub session : IsSession p bytes text refused
  pub prefix : IsPrefix written text

-- a prefix of the text, written before all lines were read or after
pub data Begins (p : Protocol) (bytes written : List ℕ) : Type 0 where
  in_lines : BeginsInLines p bytes written → Begins p bytes written
  at_end : BeginsText p bytes written → Begins p bytes written
