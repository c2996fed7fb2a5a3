-- The lines of finite proofs, and where they may stand.
use Rattle.std.specs.Prelude.{ℕ, Bool, true, false, List, [], if◌then◌else◌, Option, Some, None}
use Rattle.etp_reading.specs.Grammars.{Grammar}
use Rattle.etp_lines.specs.ProofLines.{plain, heading, lemma, step}
use Rattle.etp_lines.specs.BodyLines as Bodies
use Rattle.etp_lines.specs.BodyLines.{Line, of_proofs}
use Rattle.etp_cancel.specs.Cancelling.{Cancel}
use Rattle.etp_finite_lines.specs.CancelLines.{SaysCancel}

-- what a line may say: what a line of a body says, or that it cancels
pub data FiniteLine : Type 0 where
  body : Line → FiniteLine
  cancel : Cancel → FiniteLine

-- the line says this
abbrev pub Says : List ℕ → FiniteLine → Type 0
Says line (body said) = Bodies.Says line said
Says line (cancel c) = SaysCancel line c

-- the law numbers of a line, from left to right
abbrev pub numbers_of : FiniteLine → List ℕ
numbers_of (body said) = Bodies.numbers_of said
numbers_of (cancel c) = []

-- how far a finite proof has come
pub data FinitePlace : Type 0 where
  -- no line has been read but blank ones
  opening : FinitePlace
  -- the heading stands
  headed : FinitePlace
  -- a lemma that may have more steps stands
  stepping : FinitePlace
  -- a line that cancels stands
  cancelled : FinitePlace

-- a proof that cites no files begins
abbrev pub after_opening : FiniteLine → Option FinitePlace
after_opening (body (of_proofs, heading plain hypothesis goal)) = Some headed
after_opening _ = None

-- a lemma begins, or a line cancels
abbrev pub with_lemma : FiniteLine → Option FinitePlace
with_lemma (body (of_proofs, lemma start)) = Some stepping
with_lemma (cancel c) = Some cancelled
with_lemma _ = None

-- that, or a step by a line of the proof
abbrev pub with_step : FiniteLine → Option FinitePlace
with_step (body (of_proofs, step x)) = if x.cited then None else Some stepping
with_step said = with_lemma said

-- how far the proof has come with one more line, where this line may stand there
abbrev pub after : FinitePlace → FiniteLine → Option FinitePlace
after opening said = after_opening said
after headed said = with_lemma said
after stepping said = with_step said
after cancelled said = with_lemma said

-- a proof may end behind a lemma
abbrev pub is_complete : FinitePlace → Bool
is_complete opening = false
is_complete headed = false
is_complete stepping = true
is_complete cancelled = true

-- the lines of finite proofs
abbrev pub finite_proofs : Grammar
finite_proofs = record {
  Line = FiniteLine;
  Place = FinitePlace;
  opening = opening;
  Says = Says;
  after = after;
  is_complete = is_complete;
  numbers_of = numbers_of;
}
