-- Bodies about finite magmas by their lines.
use Rattle.std.specs.Prelude.{◌≡◌, ◌⊎◌, ℕ, Bool, List, [], ◌∷◌, codes}
use Rattle.etp_io.specs.Texts.{LineText, whole, too_long}
use Rattle.etp_words.specs.Words.{words_of, IsBlankLine}
use Rattle.etp_reading.specs.Reading as Lines
use Rattle.etp_reading.specs.Reading.{AreRead}
use Rattle.etp_reading.specs.declared.refusal.BodyRefusal.{BodyRefusal}
use Rattle.etp_linear.specs.declared.parts.Ring.TheVariants.{Modulo}
use Rattle.etp_items.specs.Bodies as Bodies
use Rattle.etp_items.specs.Bodies.{Model, table, linear}
use Rattle.etp_items.specs.Reading as Items
use Rattle.etp_items.specs.Reading.{IsReadBody}
use Rattle.etp_finite_lines.specs.FiniteLines.{finite_proofs}
use Rattle.etp_finite_body.specs.FiniteBodies.{FiniteProofBody, finite_proof_lines, FiniteFileBody, proof, model}
use Rattle.etp_finite_body.specs.declared.refusal.FiniteBodyRefusal.{FiniteBodyRefusal}
use Rattle.etp_finite_body.specs.declared.refusal.FiniteBodyRefusal.TheVariants.{Infinite, Body}

abbrev pub IsBlankText : LineText → Type 0
IsBlankText too_long = ⊥
IsBlankText (whole line) = IsBlankLine line

-- the first line that isn't blank is so
abbrev pub FirstIs : (LineText → Type 0) → List LineText → Type 0
FirstIs is [] = ⊥
FirstIs is (x ∷ xs) = (is x × (IsBlankText x → ⊥)) ⊎ (IsBlankText x × FirstIs is xs)

-- the line begins with the word `rules`, or with the words `linear int`
abbrev pub IsInfinite : LineText → Type 0
IsInfinite too_long = ⊥
IsInfinite (whole line) = (more : List (List ℕ))
    × ((words_of line ≡ codes "rules" ∷ more) ⊎ (words_of line ≡ codes "linear" ∷ codes "int" ∷ more))

-- the line begins with the word `table` or `linear`
abbrev pub IsModel : LineText → Type 0
IsModel too_long = ⊥
IsModel (whole line) = (more : List (List ℕ))
    × ((words_of line ≡ codes "table" ∷ more) ⊎ (words_of line ≡ codes "linear" ∷ more))

-- the first line that isn't blank begins what has no finite carrier
abbrev pub BeginsInfinite : List LineText → Type 0
BeginsInfinite = FirstIs IsInfinite

-- or a table or a linear magma
abbrev pub BeginsModel : List LineText → Type 0
BeginsModel = FirstIs IsModel

-- the lines are this proof, closed and with listed law numbers
abbrev pub IsReadProof : ℕ → List LineText → Bool → FiniteProofBody → Type 0
IsReadProof count lines closed p = AreRead finite_proofs count lines closed (finite_proof_lines p)

-- a table, or a linear magma with a modulus
abbrev pub IsFiniteModel : Model → Type 0
IsFiniteModel (table size entries) = Unit {0}
IsFiniteModel (linear l) = (m : ℕ) × (l.ring ≡ Modulo m)
IsFiniteModel _ = ⊥

-- the lines are this body, closed and with listed law numbers
abbrev pub IsReadFiniteBody : ℕ → List LineText → Bool → FiniteFileBody → Type 0
IsReadFiniteBody count lines closed (proof p) = IsReadProof count lines closed p
IsReadFiniteBody count lines closed (model m claims) =
    IsFiniteModel m × IsReadBody count lines closed (Bodies.model m claims)

-- lines that begin a table or a linear magma are refused as such, and others as those of a proof
abbrev pub RefusesBody : ℕ → List LineText → Bool → BodyRefusal → Type 0
RefusesBody count lines closed r =
    (BeginsModel lines × Items.Refuses count lines closed r)
    ⊎ ((BeginsModel lines → ⊥) × Lines.Refuses finite_proofs count lines closed r)

-- the refusal is the one of these lines: infinite before anything else
abbrev pub FiniteRefuses : ℕ → List LineText → Bool → FiniteBodyRefusal → Type 0
FiniteRefuses count lines closed Infinite = BeginsInfinite lines
FiniteRefuses count lines closed (Body r) =
    (BeginsInfinite lines → ⊥) × RefusesBody count lines closed r
