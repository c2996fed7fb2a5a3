-- The lines of a file's body within a session, and the reply to the file.
use Rattle.std.specs.Prelude.{◌≡◌, ◌≢◌, ℕ, List, [], ◌∷◌, ◌++◌, Bool, true, false, codes, decimal, length, None, Some}
use Rattle.std.specs.declared.option.Option.{Option}
use Rattle.etp_io.specs.Texts.{LineText, whole, too_long}
use Rattle.etp_proof.specs.Names.{IsName}
use Rattle.etp_items.specs.Bodies.{FileBody, matrix, model}
use Rattle.etp_items.specs.Reading.{IsReadBody, Refuses}
use Rattle.etp_reading.specs.declared.refusal.BodyRefusal.{BodyRefusal}
use Rattle.etp_check.specs.Checks.{fact_said}
use Rattle.etp_theory.specs.Reach.{Fact, implies, refutes}
use Rattle.etp_ledger.specs.Files.{File, Stands, body_named}
use Rattle.etp_ledger.specs.Accepting.{IsAccepted}
use Rattle.etp_ledger.specs.Refusals.{IsFileRefused}
use Rattle.etp_ledger.specs.declared.refusal.LedgerRefusal.{LedgerRefusal}
use Rattle.etp_ledger.specs.declared.refusal.LedgerRefusal.TheVariants.{NoMemory}
use Rattle.etp_words.specs.Words.{words_of, is_word}
use Rattle.etp_print.specs.Texts.{Reply, silent, answered, refused, refused_file}
use Rattle.etp_print.specs.RefusalTexts.{body_refusal, file_refusal}
use Rattle.etp_desk.specs.States.{Opened, Filing, State, over, filing}

-- the only word is `end`
abbrev pub is_end : List (List ℕ) → Bool
is_end (word ∷ []) = is_word word (codes "end")
is_end _ = false

-- the line closes a body; a long one never does
abbrev pub closes_body : LineText → Bool
closes_body too_long = false
closes_body (whole line) = is_end (words_of line)

-- the word is to be a name and is none, or there isn't one word
abbrev pub HasNoName : Option (List ℕ) → Type 0
HasNoName None = Unit {0}
HasNoName (Some word) = IsName word → ⊥

-- the word is this name, and no file has it
pub record HasFreeName (files : List File) (word : Option (List ℕ)) (name : List ℕ) : Type 0 where
  pub word_is : word ≡ Some name
  pub is_name : IsName name
  pub free : body_named name files ≡ None

-- how many numbers a vector of the body has, where it has matrices; else 0
abbrev pub vector_size : FileBody → ℕ
vector_size (model (matrix g) claims) = g.size
vector_size _ = 0

-- what an accepted file says
abbrev pub said_text : Fact → List ℕ
said_text (implies hypothesis goal) = codes "implies" ++ codes " " ++ decimal hypothesis ++ codes " " ++ decimal goal
said_text (refutes holds fails) = codes "refutes" ++ codes " " ++ decimal (length holds) ++ codes " " ++ decimal (length fails)

-- the line of an accepted file with these words of what it says
abbrev pub accepted_with : List ℕ → List ℕ → List ℕ
accepted_with name said = codes "accepted " ++ name ++ codes ": " ++ said ++ 10 ∷ []

abbrev pub accepted_line : List ℕ → Fact → List ℕ
accepted_line name fact = accepted_with name (said_text fact)

-- The reply to a file whose body lines are over, and the files that stand then. `closed`: by `end`.
pub data FileReply (o : Opened) (f : Filing) (closed : Bool) (reply : Reply) (after : List File) : Type 0 where
  no_name : HasNoName f.word → reply ≡ refused (codes "bad line") → after ≡ o.files → FileReply o f closed reply after
  name_taken : (name : List ℕ) → f.word ≡ Some name → IsName name → Stands o.files name
      → reply ≡ refused (codes "name taken " ++ name) → after ≡ o.files → FileReply o f closed reply after
  no_body : (name : List ℕ) (r : BodyRefusal) → HasFreeName o.files f.word name
      → Refuses (length o.laws.equations) f.lines closed r
      → reply ≡ refused_file name (body_refusal r) → after ≡ o.files → FileReply o f closed reply after
  not_accepted : (name : List ℕ) (body : FileBody) (r : LedgerRefusal) → HasFreeName o.files f.word name
      → IsReadBody (length o.laws.equations) f.lines closed body → IsFileRefused o.laws o.files name body r → r ≢ NoMemory
      → reply ≡ refused_file name (file_refusal (vector_size body) r) → after ≡ o.files → FileReply o f closed reply after
  accepted : (name : List ℕ) (body : FileBody) → HasFreeName o.files f.word name
      → IsReadBody (length o.laws.equations) f.lines closed body → IsAccepted o.laws.equations o.files name body
      → reply ≡ answered (accepted_line name (fact_said body)) → after ≡ o.files ++ record { name = name; body = body } ∷ [] → FileReply o f closed reply after

-- the reply to a line of a body: none, until `end` closes it
pub data BodyReply (o : Opened) (f : Filing) (line : LineText) (reply : Reply) (after : State) : Type 0 where
  goes_on : closes_body line ≡ false → reply ≡ silent
      → after ≡ filing o (record { number = f.number; word = f.word; lines = f.lines ++ line ∷ [] }) → BodyReply o f line reply after
  closes : (files : List File) → closes_body line ≡ true → FileReply o f true reply files
      → after ≡ over (record { laws = o.laws; files = files }) → BodyReply o f line reply after
