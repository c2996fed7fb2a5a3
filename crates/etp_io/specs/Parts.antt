-- What a reader's private parts do to the line that is read.
use Rattle.std.specs.Prelude.{◌≡◌, ℕ, ◌+◌, ◌<◌, ◌≤◌, true, false, List, [], ◌∷◌, ◌++◌, length, take, drop, None, Some, Ok, Err}
use Rattle.std.specs.declared.option.Option.{Option}
use Rattle.std.specs.declared.result.Result.{Result}
use Rattle.etp_io.specs.declared.lines.InFault.{InFault}
use Rattle.etp_io.specs.declared.lines.Next.{Next}
use Rattle.etp_io.specs.declared.lines.Next.TheVariants.{Line, End}
use Rattle.std.specs.Io.KnownBytes.{Keeps, Consumes, IsAtEnd}
use Rattle.etp_io.specs.Counts.{RisesBy}
use Rattle.etp_io.specs.Texts.{LineText, text_of, NoNewline}
use Rattle.etp_io.specs.Answers.{says, to_come}
use Rattle.etp_io.specs.Reader.{Reader, SaysTooMuch}

-- the first newline stands at this place
pub record FirstNewline (bytes : List ℕ) (place : ℕ) : Type 0 where
  pub before : NoNewline (take place bytes)
  pub here : drop place bytes ≡ 10 ∷ drop (place + 1) bytes
  pub within : place < length bytes

-- no newline stands in what was held, and it joined the line
pub record Joins (line held line' held' : List ℕ) : Type 0 where
  pub plain : NoNewline held
  pub none : held' ≡ []
  pub joined : line' ≡ take 4097 (line ++ held)

-- what stood before the first newline joined the line, and what stands after it is held
pub record Cuts (line held line' held' : List ℕ) : Type 0 where
  pub part : List ℕ
  pub plain : NoNewline part
  pub stood : held ≡ part ++ 10 ∷ held'
  pub joined : line' ≡ take 4097 (line ++ part)

-- what stood before the first newline ended the line, and what stands after it is held
pub record CutsLine (line held held' : List ℕ) (texts : List LineText) : Type 0 where
  pub part : List ℕ
  pub plain : NoNewline part
  pub stood : held ≡ part ++ 10 ∷ held'
  pub says_text : texts ≡ text_of 4096 (take 4097 (line ++ part)) ∷ []

-- the last line, where bytes stand in it
abbrev pub last_text : List ℕ → List LineText
last_text [] = []
last_text (b ∷ line) = text_of 4096 (b ∷ line) ∷ []

-- an answer without a read: the end, or a line that is held whole
pub record NextHeld (old new : Reader) (next : Next) : Type 0 where
  pub end : old.ended ≡ true → (next ≡ End) × (new ≡ record old { line = [] }) × (old.held ≡ [])
  pub cut : old.ended ≡ false → CutsLine [] old.held new.held (says next new.line)
  pub number : new.number ≡ old.number + length (says next new.line)
  pub not_line : (next ≡ Line → ⊥) → new.line ≡ []
  pub short : length new.line ≤ 4096
  pub not_end : old.ended ≡ false → next ≡ End → ⊥

abbrev pub AnswersHeld : Reader → Reader → Option (Result Next InFault) → Type 0
AnswersHeld old new None =
    (old.fault ≡ None) × (old.ended ≡ false) × (new.number ≡ old.number) × Joins [] old.held new.line new.held
AnswersHeld old new (Some (Err fault)) = (old.fault ≡ Some fault) × (new ≡ record old { line = [] })
AnswersHeld old new (Some (Ok next)) = (old.fault ≡ None) × NextHeld old new next

-- an answer after a read: the last line, or a line that the read ended
pub record NextRead (old new : Reader) (next : Next) : Type 0 where
  pub last : old.ended ≡ true → (says next new.line ≡ last_text old.line) × (new.held ≡ [])
  pub cut : old.ended ≡ false → CutsLine old.line old.held new.held (says next new.line)
  pub number : new.number ≡ old.number + length (says next new.line)
  pub not_line : (next ≡ Line → ⊥) → new.line ≡ []
  pub short : length new.line ≤ 4096
  pub end : next ≡ End → (old.ended ≡ true) × (new.held ≡ [])

abbrev pub AnswersRead : Reader → Reader → Option Next → Type 0
AnswersRead old new None = (old.ended ≡ false) × (new.number ≡ old.number) × Joins old.line old.held new.line new.held
AnswersRead old new (Some next) = NextRead old new next

-- a read, and what it gave
pub record Filled (old new : Reader) (g g' f f' : ℕ) (l l' : Option (List ℕ)) : Type 0 where
  pub same : new ≡
      record old { held = new.held; line = new.line; taken = new.taken; ended = new.ended; fault = new.fault }
  pub taken : new.taken ≡ old.taken + length new.held
  pub says : SaysTooMuch new.limit new.taken new.fault
  pub bytes : Keeps l (to_come new l')
  pub given : RisesBy g g' (length new.held)
  pub later : f ≤ f'

-- a read at a place gave these n bytes, none only at the end
pub record GivesAt (left left' : Option (List ℕ)) (n : ℕ) (bytes : List ℕ) : Type 0 where
  pub consumes : Consumes left left' bytes
  pub at_end : n ≡ 0 → IsAtEnd left'
