-- Bodies by their lines.
use Rattle.std.specs.Prelude.{◌≡◌, ◌≤◌, ℕ, Bool, true, List, [], ◌∷◌, ◌++◌, length, map}
use Rattle.etp_theory.specs.Proofs.{Lemma}
use Rattle.etp_io.specs.Texts.{LineText}
use Rattle.etp_reading.specs.Reading as Lines
use Rattle.etp_reading.specs.Reading.{AreWhole, AreListed, line_limit}
use Rattle.etp_reading.specs.declared.refusal.BodyRefusal.{BodyRefusal}
use Rattle.etp_lines.specs.ProofLines.{Version, ProofLine, heading, cite, lemma, step}
use Rattle.etp_lines.specs.TableLines.{TableLine, SaysRows}
use Rattle.etp_lines.specs.MatrixLines as Matrices
use Rattle.etp_lines.specs.MatrixLines.{MatrixLine}
use Rattle.etp_lines.specs.RulesLines.{system_lines}
use Rattle.etp_lines.specs.Claims.{ClaimLine, Claims, SaysClaims}
use Rattle.etp_lines.specs.BodyLines.{Line, proof_line, table_line, linear_line, matrix_line, rules_line, claim_line, bodies}
use Rattle.etp_items.specs.Bodies.{ProofBody, Model, table, linear, matrix, rules, FileBody, proof, model}

-- the lines of lemmas: each lemma's start, and its steps
abbrev pub lemma_lines : List Lemma → List ProofLine
lemma_lines [] = []
lemma_lines (l ∷ ls) = lemma l.start ∷ (map step l.steps ++ lemma_lines ls)

-- the lines of a proof
abbrev pub proof_lines : Version → ProofBody → List ProofLine
proof_lines version p = heading version p.hypothesis p.goal ∷ (map cite p.cites ++ lemma_lines p.lemmas)

-- the lines tell this magma
abbrev pub SaysModel : List Line → Model → Type 0
SaysModel saids (table size entries) =
    (lines : List TableLine) × (saids ≡ map table_line lines) × SaysRows lines size entries
SaysModel saids (linear l) = saids ≡ linear_line l ∷ []
SaysModel saids (matrix g) = (lines : List MatrixLine) × (saids ≡ map matrix_line lines) × Matrices.SaysRows lines g
SaysModel saids (rules w rs) = saids ≡ map rules_line (system_lines w rs)

-- lines that tell a magma, and behind them claims
pub record SaysClaimed (saids : List Line) (m : Model) (claims : Claims) : Type 0 where
  pub head : List Line
  pub behind : List ClaimLine
  pub whole : saids ≡ head ++ map claim_line behind
  pub says_model : SaysModel head m
  pub says_claims : SaysClaims behind claims

-- what the lines say is this body
abbrev pub SaysBody : List Line → FileBody → Type 0
SaysBody saids (proof p) = (version : Version) × (saids ≡ map proof_line (proof_lines version p))
SaysBody saids (model m claims) = SaysClaimed saids m claims

-- the lines are this body
pub record IsBody (lines : List LineText) (body : FileBody) : Type 0 where
  pub saids : List Line
  pub are_whole : AreWhole bodies lines saids
  pub says : SaysBody saids body

-- the refusal is the one of these lines
abbrev pub Refuses : ℕ → List LineText → Bool → BodyRefusal → Type 0
Refuses = Lines.Refuses bodies

-- the lines are this body, closed and with listed law numbers
pub record IsReadBody (count : ℕ) (lines : List LineText) (closed : Bool) (body : FileBody) : Type 0 where
  pub is_closed : closed ≡ true
  pub few : length lines ≤ line_limit
  pub is_body : IsBody lines body
  pub listed : AreListed bodies count is_body.saids

-- the law numbers of a body, in the order of its lines
abbrev pub body_numbers : FileBody → List ℕ
body_numbers (proof p) = p.hypothesis ∷ p.goal ∷ []
body_numbers (model m claims) = claims.holds ++ claims.fails
