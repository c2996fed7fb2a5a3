-- What a reader has read of a body about finite magmas.
use Rattle.std.specs.Prelude.{◌≡◌, ℕ, Bool, true, false, List, [], ◌∷◌, ◌++◌, Option, Some, None}
use Rattle.std.specs.List.{AllByRecursion}
use Rattle.etp_io.specs.Texts.{LineText, whole}
use Rattle.etp_words.specs.Words.{IsBlankLine}
use Rattle.etp_reading.specs.Reading.{HasNoPlace}
use Rattle.etp_reading.specs.Tallies.{HasTallied, HasFirst}
use Rattle.etp_items.specs.Work as Items
use Rattle.etp_items.specs.declared.reader.BodyReader.{BodyReader}
use Rattle.etp_cancel.specs.Cancelling.{FiniteLemma, by_steps, by_cancel}
use Rattle.etp_finite_lines.specs.FiniteLines.{FiniteLine, FinitePlace, opening, headed, stepping, cancelled, after_opening, after, is_complete, Says, numbers_of, finite_proofs}
use Rattle.etp_finite_body.specs.FiniteBodies.{FiniteProofBody, finite_proof_of, finite_proof_lines}
use Rattle.etp_finite_body.specs.Reading.{IsBlankText, FirstIs, IsInfinite, IsModel}
use Rattle.etp_finite_body.specs.declared.body.FiniteProof.{FiniteProof}
use Rattle.etp_finite_body.specs.declared.proof_reader.Next.{Next}
use Rattle.etp_finite_body.specs.declared.proof_reader.Next.TheVariants as Line
use Rattle.etp_finite_body.specs.declared.proof_reader.ProofReader.{ProofReader}
use Rattle.etp_finite_body.specs.declared.first.First.{First}
use Rattle.etp_finite_body.specs.declared.first.First.TheVariants.{Blank, Infinite, Model, Proof}
use Rattle.etp_finite_body.specs.declared.reader.FiniteReader.{FiniteReader}

-- how far a proof has come with this lemma
abbrev pub place_of : FiniteLemma → FinitePlace
place_of (by_steps l) = stepping
place_of (by_cancel c) = cancelled

-- how far it has come with these lemmas
abbrev pub place_after : FinitePlace → List FiniteLemma → FinitePlace
place_after place [] = place
place_after place (l ∷ ls) = place_after (place_of l) ls

abbrev pub proof_place : FiniteProof → FinitePlace
proof_place p = place_after headed (finite_proof_of p).lemmas

-- what its lines said
abbrev pub proof_said : FiniteProof → List FiniteLine
proof_said p = finite_proof_lines (finite_proof_of p)

-- a heading opens a proof, and no other line
abbrev pub OpensProof : FiniteLine → Option FiniteProof → Type 0
OpensProof said None = after_opening said ≡ None
OpensProof said (Some p) = (after_opening said ≡ Some (proof_place p)) × (proof_said p ≡ said ∷ [])

-- a line that may stand in a proof is taken, and no other
abbrev pub TakesInProof : FiniteProof → FiniteLine → FiniteProof → Bool → Type 0
TakesInProof old said new true =
    (after (proof_place old) said ≡ Some (proof_place new)) × (proof_said new ≡ proof_said old ++ said ∷ [])
TakesInProof old said new false = after (proof_place old) said ≡ None

-- the lines of the work have come to this place and said this
abbrev pub HasCome : Option FiniteProof → FinitePlace → List FiniteLine → Type 0
HasCome None place saids = (place ≡ opening) × (saids ≡ [])
HasCome (Some p) place saids = (place ≡ proof_place p) × (saids ≡ proof_said p)

-- the work goes on from one place to another
pub record GoesOn (new : Option FiniteProof) (said : FiniteLine) (place : FinitePlace) (saids : List FiniteLine) : Type 0 where
  pub next : FinitePlace
  pub stands : after place said ≡ Some next
  pub come : HasCome new next (saids ++ said ∷ [])

-- a line that may stand is taken, and no other
abbrev pub Takes : Option FiniteProof → FiniteLine → Option FiniteProof → Bool → Type 0
Takes old said new true = (place : FinitePlace) (saids : List FiniteLine) → HasCome old place saids → GoesOn new said place saids
Takes old said new false = (place : FinitePlace) (saids : List FiniteLine) → HasCome old place saids → after place said ≡ None

-- the work is this proof, whole, or no proof
abbrev pub IsWhole : Option FiniteProof → Option FiniteProofBody → Type 0
IsWhole work None = (place : FinitePlace) (saids : List FiniteLine) → HasCome work place saids → is_complete place ≡ false
IsWhole work (Some p) = (place : FinitePlace) (saids : List FiniteLine) → HasCome work place saids
    → (is_complete place ≡ true) × (saids ≡ finite_proof_lines p)

-- a line with these law numbers was taken
pub record TakesLine (count : ℕ) (old new : Option FiniteProof) (line : List ℕ) (number : Option ℕ) : Type 0 where
  pub said : FiniteLine
  pub says : Says line said
  pub takes : Takes old said new true
  pub numbers : HasFirst count (numbers_of said) number

-- the line is blank, or can't stand, or was taken, with its first law number that isn't listed
abbrev pub GoesNext : ℕ → Option FiniteProof → Option FiniteProof → LineText → Next → Type 0
GoesNext count old new line Line.Blank = (bytes : List ℕ) × (line ≡ whole bytes) × IsBlankLine bytes × (new ≡ old)
GoesNext count old new line Line.Bad =
    (place : FinitePlace) (saids : List FiniteLine) → HasCome old place saids → HasNoPlace finite_proofs place line
GoesNext count old new line (Line.Taken number) =
    (bytes : List ℕ) × (line ≡ whole bytes) × TakesLine count old new bytes number

-- these lines have been pushed
pub record HasReadProof (reader : ProofReader) (lines : List LineText) : Type 0 where
  pub place : FinitePlace
  pub saids : List FiniteLine
  pub tallied : HasTallied finite_proofs reader.tally saids place lines
  pub come : reader.tally.bad ≡ None → HasCome reader.work.proof place saids

-- the lines begin a table or a linear magma, and no linear magma over the integers
abbrev pub BeginsFinite : LineText → Type 0
BeginsFinite x = IsModel x × (IsInfinite x → ⊥)

-- nor a table, nor anything else that isn't a proof
abbrev pub BeginsOther : LineText → Type 0
BeginsOther x = (IsModel x → ⊥) × (IsInfinite x → ⊥)

-- a line that begins this
abbrev pub BeginsAs : First → LineText → Type 0
BeginsAs Blank line = IsBlankText line
BeginsAs Infinite line = IsInfinite line × (IsBlankText line → ⊥)
BeginsAs Model line = BeginsFinite line × (IsBlankText line → ⊥)
BeginsAs Proof line = BeginsOther line × (IsBlankText line → ⊥)

-- these lines of a table or a linear magma have been pushed
abbrev pub ReadsModel : BodyReader → List LineText → Type 0
ReadsModel models lines = Items.HasRead models lines × FirstIs BeginsFinite lines

-- these lines, which begin no magma, have been pushed
abbrev pub ReadsProof : ProofReader → List LineText → Type 0
ReadsProof proofs lines = HasReadProof proofs lines × (FirstIs IsInfinite lines → ⊥) × (FirstIs IsModel lines → ⊥)

-- what these lines begin, and that the reader of its kind has read them
abbrev pub HasBegun : First → FiniteReader → List LineText → Type 0
HasBegun Blank reader lines = AllByRecursion IsBlankText lines × Items.HasRead reader.models lines × HasReadProof reader.proofs lines
HasBegun Infinite reader lines = FirstIs IsInfinite lines
HasBegun Model reader lines = ReadsModel reader.models lines
HasBegun Proof reader lines = FirstIs BeginsOther lines × HasReadProof reader.proofs lines

-- these lines have been pushed, and law numbers are from 1 to the count
pub record HasReadFinite (count : ℕ) (reader : FiniteReader) (lines : List LineText) : Type 0 where
  pub begun : HasBegun reader.first reader lines
  pub models_count : reader.models.tally.count ≡ count
  pub proofs_count : reader.proofs.tally.count ≡ count
