-- What a line of a body says, by its kind, and where it may stand.
use Rattle.std.specs.Prelude.{◌||◌, ℕ, Bool, true, false, List, [], codes, nat_eq, if◌then◌else◌, Option, Some, None}
use Rattle.std.specs.Option.{option_map}
use Rattle.etp_words.specs.Words.{is_word}
use Rattle.etp_reading.specs.Grammars.{Grammar}
use Rattle.etp_linear.specs.Magmas.{LinearMagma}
use Rattle.etp_lines.specs.ProofLines.{ProofLine, heading, SaysProofLine, numbers_of_proof_line, ProofPlace, headed, after_in_proof, is_complete_proof}
use Rattle.etp_lines.specs.TableLines.{TableLine, table, SaysTableLine, Rows, opened_rows, after_in_table}
use Rattle.etp_lines.specs.LinearLines.{SaysLinear}
use Rattle.etp_lines.specs.MatrixLines as Matrices
use Rattle.etp_lines.specs.MatrixLines.{MatrixLine, SaysMatrixLine, opened_matrix, after_in_matrix}
use Rattle.etp_lines.specs.RulesLines.{RulesLine, SaysRulesLine, RulesPlace, opened_rules, after_in_rules, has_rule}
use Rattle.etp_lines.specs.Claims.{ClaimLine, SaysClaimLine, numbers_of_claim, ClaimPlace, first_claim, after_claim, are_complete_claims}

-- the kinds of lines
pub data Kind : Type 0 where
  of_proofs : Kind
  of_tables : Kind
  of_linear : Kind
  of_matrices : Kind
  of_rules : Kind
  of_claims : Kind

-- the kind of a line with this first word
abbrev pub kind_named : List ℕ → Option Kind
kind_named word =
    if is_word word (codes "proof") || is_word word (codes "proof2") || is_word word (codes "cite")
    || is_word word (codes "lemma") || is_word word (codes "step")
    then Some of_proofs
    else (if is_word word (codes "table") || is_word word (codes "row") then Some of_tables
    else (if is_word word (codes "linear") then Some of_linear
    else (if is_word word (codes "matrix") || is_word word (codes "a") || is_word word (codes "b")
    || is_word word (codes "c")
    then Some of_matrices
    else (if is_word word (codes "rules") || is_word word (codes "weight") || is_word word (codes "rule")
    then Some of_rules
    else (if is_word word (codes "holds") || is_word word (codes "fails") then Some of_claims else None)))))

-- what a line of a kind may say
abbrev pub LineOf : Kind → Type 0
LineOf of_proofs = ProofLine
LineOf of_tables = TableLine
LineOf of_linear = LinearMagma
LineOf of_matrices = MatrixLine
LineOf of_rules = RulesLine
LineOf of_claims = ClaimLine

-- what a line may say
abbrev pub Line : Type 0
Line = (kind : Kind) × LineOf kind

abbrev pub proof_line : ProofLine → Line
proof_line said = (of_proofs, said)

abbrev pub table_line : TableLine → Line
table_line said = (of_tables, said)

abbrev pub linear_line : LinearMagma → Line
linear_line said = (of_linear, said)

abbrev pub matrix_line : MatrixLine → Line
matrix_line said = (of_matrices, said)

abbrev pub rules_line : RulesLine → Line
rules_line said = (of_rules, said)

abbrev pub claim_line : ClaimLine → Line
claim_line said = (of_claims, said)

-- the line says this
abbrev pub Says : List ℕ → Line → Type 0
Says line (of_proofs, said) = SaysProofLine line said
Says line (of_tables, said) = SaysTableLine line said
Says line (of_linear, said) = SaysLinear line said
Says line (of_matrices, said) = SaysMatrixLine line said
Says line (of_rules, said) = SaysRulesLine line said
Says line (of_claims, said) = SaysClaimLine line said

-- the law numbers of a line, from left to right
abbrev pub numbers_of : Line → List ℕ
numbers_of (of_proofs, said) = numbers_of_proof_line said
numbers_of (of_tables, said) = []
numbers_of (of_linear, said) = []
numbers_of (of_matrices, said) = []
numbers_of (of_rules, said) = []
numbers_of (of_claims, said) = numbers_of_claim said

-- how far the lines before the claims have come, which tell a magma
pub data Head : Type 0 where
  rows : Rows → Head
  linear : LinearMagma → Head
  matrix : Matrices.Rows → Head
  rules : RulesPlace → Head

-- the magma is told
abbrev pub is_told : Head → Bool
is_told (rows r) = nat_eq r.count r.size
is_told (linear l) = true
is_told (matrix r) = Matrices.has_all r
is_told (rules p) = has_rule p

-- how far a body has come
pub data Place : Type 0 where
  -- no line has been read but blank ones
  opening : Place
  in_proof : ProofPlace → Place
  in_head : Head → Place
  in_claims : ClaimPlace → Place

-- how far the lines of a magma have come with the first of them
abbrev pub opened_head : Line → Option Head
opened_head (of_tables, table size) = option_map rows (opened_rows size)
opened_head (of_linear, l) = Some (linear l)
opened_head (of_matrices, Matrices.matrix modulus size) = option_map matrix (opened_matrix modulus size)
opened_head (of_rules, said) = option_map rules (opened_rules said)
opened_head _ = None

-- and with one more of them
abbrev pub next_head : Head → Line → Option Head
next_head (rows r) (of_tables, said) = option_map rows (after_in_table r said)
next_head (matrix r) (of_matrices, said) = option_map matrix (after_in_matrix r said)
next_head (rules p) (of_rules, said) = option_map rules (after_in_rules p said)
next_head _ _ = None

-- a line that is none of a proof
abbrev pub BeginsNoProof : Line → Type 0
BeginsNoProof (of_proofs, said) = ⊥
BeginsNoProof _ = Unit {0}

-- how far a body has come with its first line
abbrev pub after_opening : Line → Option Place
after_opening (of_proofs, heading version hypothesis goal) = Some (in_proof (headed version 0))
after_opening said = option_map in_head (opened_head said)

-- how far it has come with one more line that tells a magma, or with the first claim
abbrev pub after_head : Head → Line → Option Place
after_head head (of_claims, said) = if is_told head then option_map in_claims (first_claim said) else None
after_head head said = option_map in_head (next_head head said)

-- how far the body has come with one more line, where this line may stand there
abbrev pub after : Place → Line → Option Place
after opening said = after_opening said
after (in_proof place) (of_proofs, said) = option_map in_proof (after_in_proof place said)
after (in_head head) said = after_head head said
after (in_claims place) (of_claims, said) = option_map in_claims (after_claim place said)
after _ _ = None

-- the body may end at this place
abbrev pub is_complete : Place → Bool
is_complete opening = false
is_complete (in_proof place) = is_complete_proof place
is_complete (in_head head) = false
is_complete (in_claims place) = are_complete_claims place

-- the lines of bodies
abbrev pub bodies : Grammar
bodies = record {
  Line = Line;
  Place = Place;
  opening = opening;
  Says = Says;
  after = after;
  is_complete = is_complete;
  numbers_of = numbers_of;
}
