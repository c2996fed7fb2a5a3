-- A file whose body is being read, as the program keeps it, and what the parts of its handling give.
use Rattle.std.specs.Prelude.{◌≡◌, ℕ, List, [], ◌∷◌, ◌++◌, Bool, codes, decimal, length, Some}
use Rattle.etp_io.specs.Texts.{LineText}
use Rattle.etp_proof.specs.Names.{IsName}
use Rattle.etp_items.specs.Work.{HasRead}
use Rattle.etp_items.specs.declared.reader.BodyReader.{BodyReader}
use Rattle.etp_ledger.specs.Files.{File, Stands}
use Rattle.etp_print.specs.Given.{GivesThen}
use Rattle.etp_desk.specs.States as States
use Rattle.etp_desk.specs.declared.opened.Opened.{Opened}
use Rattle.etp_filing.specs.FileReplies.{FileReply, HasNoName, HasFreeName}
use Rattle.etp_filing.specs.declared.filing.Filing.{Filing}
use Rattle.etp_filing.specs.declared.filing.Pending.{Pending}
use Rattle.etp_filing.specs.declared.filing.Pending.TheVariants as Kept
use Rattle.etp_filing.specs.declared.accepting.Said.{Said}
use Rattle.etp_filing.specs.declared.accepting.Said.TheVariants.{Implies, Refutes}

-- what is known of a file whose lines are read
pub record IsReading (o : Opened) (name : List ℕ) (reader : BodyReader) (g : States.Filing) : Type 0 where
  pub free : HasFreeName o.ledger.files g.word name
  pub read : HasRead reader g.lines
  pub count : reader.tally.count ≡ length o.laws.equations

abbrev pub IsPending : Opened → Pending → States.Filing → Type 0
IsPending o Kept.BadLine g = HasNoName g.word
IsPending o (Kept.NameTaken name) g = (g.word ≡ Some name) × IsName name × Stands o.ledger.files name
IsPending o (Kept.Reading name reader) g = IsReading o name reader g

pub record IsFiling (o : Opened) (f : Filing) (g : States.Filing) : Type 0 where
  pub number_is : g.number ≡ f.number
  pub pending : IsPending o f.pending g

-- the file with one body line more
abbrev pub with_line : States.Filing → LineText → States.Filing
with_line g line = record { number = g.number; word = g.word; lines = g.lines ++ line ∷ [] }

-- a file that line n loads under this word, with these body lines
abbrev pub loading : ℕ → List ℕ → List LineText → States.Filing
loading n word lines = record { number = n; word = Some word; lines = lines }

-- the words of what a body says
abbrev pub words_from : Said → List ℕ
words_from (Implies hypothesis goal) = codes "implies" ++ codes " " ++ decimal hypothesis ++ codes " " ++ decimal goal
words_from (Refutes holds fails) = codes "refutes" ++ codes " " ++ decimal holds ++ codes " " ++ decimal fails

-- the reply to a file whose body is over has this text
abbrev pub GivesFile : States.Opened → States.Filing → Bool → List ℕ → Bool → (List File → Type 0) → Type 0
GivesFile o f closed text refused IsAfter = GivesThen f.number text refused (FileReply o f closed) IsAfter
