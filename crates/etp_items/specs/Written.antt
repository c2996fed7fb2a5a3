-- Bodies as they are written.
use Rattle.std.specs.Prelude.{◌≡◌, ◌*◌, ◌<◌, ◌≤◌, ◌^◌, ℕ, zero, suc, unsigned_abs, length, take, drop, All, Bool, true, false, not, ◌||◌, List, [], ◌∷◌, ◌++◌, map, codes, decimal, if◌then◌else◌}
use Rattle.std.specs.List.{list_any}
use Rattle.std.specs.Fmt.{signed_decimal}
use Rattle.etp_theory.specs.Trees.{Equation, bound, leaves}
use Rattle.etp_theory.specs.Positions.{Side, to_left, to_right}
use Rattle.etp_theory.specs.Proofs.{ProofStep, Lemma}
use Rattle.etp_theory.specs.Weights.{Weight}
use Rattle.etp_io.specs.Texts.{lines_of}
use Rattle.etp_reading.specs.Reading.{line_limit}
use Rattle.etp_text.specs.Written.{written_term}
use Rattle.etp_text.specs.Refusals.{side_limit}
use Rattle.etp_proof.specs.Names.{IsName}
use Rattle.etp_linear.specs.Magmas.{LinearMagma}
use Rattle.etp_linear.specs.declared.parts.Ring.{Ring}
use Rattle.etp_linear.specs.declared.parts.Ring.TheVariants.{Integers, Modulo}
use Rattle.etp_matrix.specs.Magmas.{MatrixMagma, IsShape}
use Rattle.etp_items.specs.Bodies.{ProofBody, Model, table, linear, matrix, rules, FileBody, proof, model}
use Rattle.etp_lines.specs.ProofLines.{Version, plain, citing, version_word, ProofLine, heading, cite, lemma, step, cite_limit}
use Rattle.etp_lines.specs.TableLines as Tables
use Rattle.etp_lines.specs.TableLines.{TableLine, row}
use Rattle.etp_lines.specs.MatrixLines as Matrices
use Rattle.etp_lines.specs.MatrixLines.{MatrixLine, part_word, rows_of}
use Rattle.etp_lines.specs.RulesLines as Systems
use Rattle.etp_lines.specs.RulesLines.{RulesLine, rule_limit, system_lines}
use Rattle.etp_lines.specs.Claims.{ClaimLine, Claims, holds, fails}
use Rattle.etp_lines.specs.BodyLines.{Line, of_proofs, of_tables, of_linear, of_matrices, of_rules, of_claims}
use Rattle.etp_items.specs.Reading.{proof_lines}

-- the number of a line, or `c` and that of a cite
abbrev pub reference_word : ProofStep → List ℕ
reference_word x = if x.cited then codes "c" ++ decimal x.line else decimal x.line

-- from right to left, or from left to right
abbrev pub direction_word : Bool → List ℕ
direction_word reversed = if reversed then codes "<" else codes ">"

-- left or right
abbrev pub side_letter : Side → ℕ
side_letter to_left = 108
side_letter to_right = 114

-- the root, or the letters from the root down
abbrev pub position_word : List Side → List ℕ
position_word [] = codes "."
position_word (side ∷ sides) = side_letter side ∷ map side_letter sides

-- words with one space between two
abbrev pub spaced : List (List ℕ) → List ℕ
spaced [] = []
spaced (word ∷ []) = word
spaced (word ∷ next ∷ words) = word ++ 32 ∷ spaced (next ∷ words)

-- each line of a proof by its words
abbrev pub written_proof_line : ProofLine → List ℕ
written_proof_line (heading version hypothesis goal) =
    spaced (version_word version ∷ decimal hypothesis ∷ decimal goal ∷ [])
written_proof_line (cite name) = spaced (codes "cite" ∷ name ∷ [])
written_proof_line (lemma start) = spaced (codes "lemma" ∷ written_term start ∷ [])
written_proof_line (step x) =
    spaced (codes "step" ∷ reference_word x ∷ direction_word x.reversed ∷ position_word x.position ∷ written_term x.to ∷ [])

-- lines that are written this way; each ends with a newline
abbrev pub written_by : {A : Type 0} → (A → List ℕ) → List A → List ℕ
written_by written [] = []
written_by written (line ∷ lines) = written line ++ 10 ∷ written_by written lines

abbrev pub written_proof_lines : List ProofLine → List ℕ
written_proof_lines = written_by written_proof_line

-- a step by a cite
abbrev pub is_cited : ProofStep → Bool
is_cited x = x.cited

-- a lemma with such a step
abbrev pub has_cited : Lemma → Bool
has_cited l = list_any is_cited l.steps

-- no name
abbrev pub is_empty : List (List ℕ) → Bool
is_empty [] = true
is_empty (name ∷ names) = false

-- the proof has a cite or a step by one
abbrev pub is_citing : ProofBody → Bool
is_citing p = not (is_empty p.cites) || list_any has_cited p.lemmas

-- only such a proof is written as one that may cite files
abbrev pub version_for : ProofBody → Version
version_for p = if is_citing p then citing else plain

-- each number behind a space
abbrev pub spaced_behind : List ℕ → List ℕ
spaced_behind [] = []
spaced_behind (number ∷ numbers) = 32 ∷ (decimal number ++ spaced_behind numbers)

-- a first word and numbers
abbrev pub written_numbers : List ℕ → List ℕ → List ℕ
written_numbers word numbers = word ++ spaced_behind numbers

-- each line of a table by its words
abbrev pub written_table_line : TableLine → List ℕ
written_table_line (Tables.table size) = written_numbers (codes "table") (size ∷ [])
written_table_line (row entries) = written_numbers (codes "row") entries

-- `int`, or `mod` and the modulus
abbrev pub ring_words : Ring → List (List ℕ)
ring_words Integers = codes "int" ∷ []
ring_words (Modulo m) = codes "mod" ∷ decimal m ∷ []

-- the line of a linear magma by its words: a negative number has `-` directly before it
abbrev pub written_linear : LinearMagma → List ℕ
written_linear l =
    spaced (codes "linear" ∷ (ring_words l.ring ++ signed_decimal l.a ∷ signed_decimal l.b ∷ signed_decimal l.c ∷ []))

-- each line of a matrix-linear magma by its words
abbrev pub written_matrix_line : MatrixLine → List ℕ
written_matrix_line (Matrices.matrix modulus size) = written_numbers (codes "matrix") (modulus ∷ size ∷ [])
written_matrix_line (Matrices.row part entries) = written_numbers (part_word part) entries

-- each line of a rule system by its words
abbrev pub written_rules_line : RulesLine → List ℕ
written_rules_line Systems.rules = codes "rules"
written_rules_line (Systems.weight on_left on_right added) =
    written_numbers (codes "weight") (on_left ∷ on_right ∷ added ∷ [])
written_rules_line (Systems.rule r) =
    spaced (codes "rule" ∷ written_term r.left ∷ codes "->" ∷ written_term r.right ∷ [])

-- and each line of claims
abbrev pub written_claim_line : ClaimLine → List ℕ
written_claim_line (holds numbers) = written_numbers (codes "holds") numbers
written_claim_line (fails numbers) = written_numbers (codes "fails") numbers

-- at most k pieces of n numbers
abbrev pub pieces : ℕ → ℕ → List ℕ → List (List ℕ)
pieces n k [] = []
pieces n zero (x ∷ xs) = []
pieces n (suc k) (x ∷ xs) = take n (x ∷ xs) ∷ pieces n k (drop n (x ∷ xs))

-- pieces of n numbers, the last with the rest
abbrev pub cut : ℕ → List ℕ → List (List ℕ)
cut n numbers = pieces n (length numbers) numbers

-- the lines of a matrix-linear magma: the rows of A, those of B, and c
abbrev pub matrix_lines : MatrixMagma → List MatrixLine
matrix_lines g =
    Matrices.matrix g.modulus g.size ∷ rows_of (cut g.size g.a) (cut g.size g.b) (g.c ∷ [])

-- the lines of a magma as they are written
abbrev pub model_text : Model → List ℕ
model_text (table size entries) = written_by written_table_line (Tables.table size ∷ map row (cut size entries))
model_text (linear l) = written_by written_linear (l ∷ [])
model_text (matrix g) = written_by written_matrix_line (matrix_lines g)
model_text (rules w rs) = written_by written_rules_line (system_lines w rs)

-- the lines of claims as they are written
abbrev pub claim_lines : Claims → List ClaimLine
claim_lines claims = map holds (cut 100 claims.holds) ++ map fails (cut 100 claims.fails)

-- the text of a body
abbrev pub written_body : FileBody → List ℕ
written_body (proof p) = written_proof_lines (proof_lines (version_for p) p)
written_body (model m claims) = model_text m ++ written_by written_claim_line (claim_lines claims)

-- the line can be written so that it is read back: names are names, numbers are below 2^32, and terms have
-- variables with a name and at most 255 leaves
abbrev pub IsWritableProofLine : ProofLine → Type 0
IsWritableProofLine (heading version hypothesis goal) = (hypothesis < 2 ^ 32) × (goal < 2 ^ 32)
IsWritableProofLine (cite name) = IsName name
IsWritableProofLine (lemma start) = (bound start ≤ 64) × (leaves start ≤ side_limit)
IsWritableProofLine (step x) = (x.line < 2 ^ 32) × (bound x.to ≤ 64) × (leaves x.to ≤ side_limit)

-- numbers below 2^32
abbrev pub AreNumbers : List ℕ → Type 0
AreNumbers = All (λ n. n < 2 ^ 32)

-- the modulus and the absolute values of the coefficients are below 2^32
pub record IsWritableLinear (l : LinearMagma) : Type 0 where
  pub modulus : (m : ℕ) → l.ring ≡ Modulo m → m < 2 ^ 32
  pub a_small : unsigned_abs l.a < 2 ^ 32
  pub b_small : unsigned_abs l.b < 2 ^ 32
  pub c_small : unsigned_abs l.c < 2 ^ 32

-- a rule's variables have a name, and a side has at most 255 leaves
pub record IsWritableRule (r : Equation) : Type 0 where
  pub left_named : bound r.left ≤ 64
  pub right_named : bound r.right ≤ 64
  pub left_few : leaves r.left ≤ side_limit
  pub right_few : leaves r.right ≤ side_limit

abbrev pub IsWritableRulesLine : RulesLine → Type 0
IsWritableRulesLine Systems.rules = Unit {0}
IsWritableRulesLine (Systems.weight on_left on_right added) =
    (on_left < 2 ^ 32) × (on_right < 2 ^ 32) × (added < 2 ^ 32)
IsWritableRulesLine (Systems.rule r) = IsWritableRule r

abbrev pub IsWritable : Line → Type 0
IsWritable (of_proofs, said) = IsWritableProofLine said
IsWritable (of_tables, Tables.table size) = size < 2 ^ 32
IsWritable (of_tables, row entries) = AreNumbers entries
IsWritable (of_linear, l) = IsWritableLinear l
IsWritable (of_matrices, Matrices.matrix modulus size) = (modulus < 2 ^ 32) × (size < 2 ^ 32)
IsWritable (of_matrices, Matrices.row part entries) = AreNumbers entries
IsWritable (of_rules, said) = IsWritableRulesLine said
IsWritable (of_claims, holds numbers) = AreNumbers numbers
IsWritable (of_claims, fails numbers) = AreNumbers numbers

-- the line is written in at most 4096 bytes
abbrev pub IsShortProofLine : ProofLine → Type 0
IsShortProofLine line = length (written_proof_line line) ≤ 4096

abbrev pub IsShortRule : Equation → Type 0
IsShortRule r = length (written_rules_line (Systems.rule r)) ≤ 4096

-- numbers below 2^32, and as many in A, B and c as the size wants
pub record IsWritableMatrix (g : MatrixMagma) : Type 0 where
  pub modulus : g.modulus < 2 ^ 32
  pub shape : IsShape g.size g.a g.b g.c
  pub a_small : AreNumbers g.a
  pub b_small : AreNumbers g.b
  pub c_small : AreNumbers g.c

-- a weight of numbers below 2^32, and 1 to 64 rules
pub record IsWritableSystem (w : Weight) (rs : List Equation) : Type 0 where
  pub left_small : w.on_left < 2 ^ 32
  pub right_small : w.on_right < 2 ^ 32
  pub added_small : w.added < 2 ^ 32
  pub some : 1 ≤ length rs
  pub few : length rs ≤ rule_limit
  pub each : All IsWritableRule rs

-- a table has a size from 1 to 255 and size times size entries
abbrev pub IsWritableModel : Model → Type 0
IsWritableModel (table size entries) =
    (1 ≤ size) × (size ≤ 255) × (length entries ≡ size * size) × AreNumbers entries
IsWritableModel (linear l) = IsWritableLinear l
IsWritableModel (matrix g) = IsWritableMatrix g
IsWritableModel (rules w rs) = IsWritableSystem w rs

-- the condition of the written form: a size, of a table or of matrices, is at least 1
abbrev pub HasSize : FileBody → Type 0
HasSize (proof p) = Unit {0}
HasSize (model (table size entries) claims) = 1 ≤ size
HasSize (model (linear l) claims) = Unit {0}
HasSize (model (matrix g) claims) = 1 ≤ g.size
HasSize (model (rules w rs) claims) = Unit {0}

-- there are laws that are to hold and laws that are to fail
pub record AreWritableClaims (claims : Claims) : Type 0 where
  pub some_hold : 0 < length claims.holds
  pub some_fail : 0 < length claims.fails
  pub holds_small : AreNumbers claims.holds
  pub fails_small : AreNumbers claims.fails

-- the body has a lemma and at most 64 cites, and each of its lines can be written
abbrev pub IsWritableBody : FileBody → Type 0
IsWritableBody (proof p) =
    (0 < length p.lemmas) × (length p.cites ≤ cite_limit)
    × All IsWritableProofLine (proof_lines (version_for p) p)
IsWritableBody (model m claims) = IsWritableModel m × AreWritableClaims claims

-- each line is short that tells the magma; the lines of rules alone may be longer
abbrev pub IsShortModel : Model → Type 0
IsShortModel (table size entries) = Unit {0}
IsShortModel (linear l) = Unit {0}
IsShortModel (matrix g) = Unit {0}
IsShortModel (rules w rs) = All IsShortRule rs

-- each of its lines is short
abbrev pub IsShortBody : FileBody → Type 0
IsShortBody (proof p) = All IsShortProofLine (proof_lines (version_for p) p)
IsShortBody (model m claims) = IsShortModel m

-- The written form has no more lines than a body may have. A proof has no more than were read; claims
-- may have stood in fewer, longer lines.
abbrev pub HasFewLines : FileBody → Type 0
HasFewLines (proof p) = Unit {0}
HasFewLines (model m claims) = length (lines_of (written_body (model m claims))) ≤ line_limit
