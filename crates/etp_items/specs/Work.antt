-- What a reader has read of a body.
use Rattle.std.specs.Prelude.{◌≡◌, ◌≤◌, ◌<◌, ◌+◌, nat_eq, All, ℕ, Bool, true, false, List, [], ◌∷◌, ◌++◌, length, map, Option, Some, None}
use Rattle.std.specs.Option.{unwrap_or}
use Rattle.std.specs.List.{concat}
use Rattle.etp_io.specs.Texts.{LineText, whole}
use Rattle.etp_words.specs.Words.{IsBlankLine}
use Rattle.etp_reading.specs.Reading.{HasNoPlace}
use Rattle.etp_reading.specs.Tallies.{HasTallied, HasFirst}
use Rattle.etp_proof.specs.declared.proof.Lemma.{Lemma}
use Rattle.etp_proof.specs.declared.label.Label.{Label}
use Rattle.etp_lines.specs.ProofLines.{Version, ProofLine, ProofPlace, headed, within, after_in_proof}
use Rattle.etp_lines.specs.TableLines.{TableLine, table, row, Rows, after_in_table}
use Rattle.etp_matrix.specs.Magmas.{MatrixMagma}
use Rattle.etp_matrix.specs.declared.parts.Part.{Part}
use Rattle.etp_matrix.specs.declared.parts.Part.TheVariants.{A, B, C}
use Rattle.etp_lines.specs.MatrixLines as Matrices
use Rattle.etp_lines.specs.MatrixLines.{MatrixLine, matrix, rows_of}
use Rattle.etp_rules.specs.Rules.{rules_of}
use Rattle.etp_rules.specs.Deciding.{weight_in}
use Rattle.etp_lines.specs.RulesLines as Systems
use Rattle.etp_lines.specs.RulesLines.{RulesLine, RulesPlace, system_lines}
use Rattle.etp_lines.specs.Claims.{ClaimLine, SaysClaims, ClaimPlace, holding, failing, first_claim, after_claim}
use Rattle.etp_lines.specs.BodyLines as Lines
use Rattle.etp_lines.specs.BodyLines.{Line, Head, opened_head, next_head, is_told, in_head, in_claims, table_line, linear_line, matrix_line, rules_line, claim_line, Place, opening, in_proof, proof_line, after_opening, after, is_complete, Says, numbers_of, bodies}
use Rattle.etp_items.specs.Bodies as Bodies
use Rattle.etp_items.specs.Bodies.{FileBody, proof_of, claims_of}
use Rattle.etp_lines.specs.Said.{version_of, linear_of}
use Rattle.etp_items.specs.Reading.{proof_lines, SaysBody}
use Rattle.etp_items.specs.declared.proof.work.ProofWork.{ProofWork}
use Rattle.etp_items.specs.declared.table.work.TableWork.{TableWork}
use Rattle.etp_items.specs.declared.matrix.work.MatrixWork.{MatrixWork}
use Rattle.etp_rules.specs.declared.rule.Rule.{Rule}
use Rattle.etp_items.specs.declared.rules.work.RulesWork.{RulesWork}
use Rattle.etp_items.specs.declared.claims.work.ClaimsWork.{ClaimsWork}
use Rattle.etp_items.specs.declared.magma.MagmaWork.{MagmaWork}
use Rattle.etp_items.specs.declared.magma.MagmaWork.TheVariants.{Table, Linear, Matrix, Rules}
use Rattle.etp_items.specs.declared.work.Work.{Work}
use Rattle.etp_items.specs.declared.work.Work.TheVariants.{Opening, Proof, Model}
use Rattle.etp_items.specs.declared.reader.Next.{Next}
use Rattle.etp_items.specs.declared.reader.Next.TheVariants.{Blank, Bad, Taken}
use Rattle.etp_items.specs.declared.reader.BodyReader.{BodyReader}

-- how far a proof with these cites and lemmas has come
abbrev pub place_with : Version → List Label → List Lemma → ProofPlace
place_with version cites [] = headed version (length cites)
place_with version cites (l ∷ ls) = within version

-- how far a proof has come
abbrev pub proof_place : ProofWork → ProofPlace
proof_place w = place_with (version_of w.version) w.proof.cites w.proof.lemmas

-- what the lines of a proof said so far
abbrev pub proof_said : ProofWork → List ProofLine
proof_said w = proof_lines (version_of w.version) (proof_of w.proof)

-- a heading opens a proof, and no other line
abbrev pub OpensProof : ProofLine → Option ProofWork → Type 0
OpensProof said None = after_opening (proof_line said) ≡ None
OpensProof said (Some w) = (after_opening (proof_line said) ≡ Some (in_proof (proof_place w))) × (proof_said w ≡ said ∷ [])

-- a line that may stand in a proof is taken, and no other
abbrev pub TakesInProof : ProofWork → ProofLine → ProofWork → Bool → Type 0
TakesInProof old said new true =
    (after_in_proof (proof_place old) said ≡ Some (proof_place new)) × (proof_said new ≡ proof_said old ++ said ∷ [])
TakesInProof old said new false = after_in_proof (proof_place old) said ≡ None

-- these rows of a table have been read
pub record HasRows (w : TableWork) (rows : List (List ℕ)) : Type 0 where
  pub some : 1 ≤ w.size
  pub count_is : w.rows ≡ length rows
  pub few : length rows ≤ w.size
  pub each : All (λ entries. length entries ≡ w.size) rows
  pub entries_are : w.entries ≡ concat rows

-- a size opens a table, and no other line
abbrev pub OpensTable : TableLine → Option TableWork → Type 0
OpensTable said None = opened_head (table_line said) ≡ None
OpensTable said (Some w) = (said ≡ table w.size) × (w.size ≤ 255) × HasRows w []

-- how far a table with these rows has come
abbrev pub rows_place : TableWork → List (List ℕ) → Rows
rows_place w rows = record { size = w.size; count = length rows }

-- the work goes on with this row
pub record TakesRow (old new : TableWork) (said : TableLine) (rows : List (List ℕ)) : Type 0 where
  pub entries : List ℕ
  pub said_is : said ≡ row entries
  pub size_is : new.size ≡ old.size
  pub stands : after_in_table (rows_place old rows) said ≡ Some (rows_place new (rows ++ entries ∷ []))
  pub now : HasRows new (rows ++ entries ∷ [])

-- a row that may stand is taken, and no other line
abbrev pub TakesInTable : TableWork → TableLine → TableWork → Bool → Type 0
TakesInTable old said new true = (rows : List (List ℕ)) → HasRows old rows → TakesRow old new said rows
TakesInTable old said new false =
    (rows : List (List ℕ)) → HasRows old rows → after_in_table (rows_place old rows) said ≡ None

-- all rows stand
abbrev pub has_all_rows : TableWork → Bool
has_all_rows w = nat_eq w.rows w.size

-- these rows of a matrix-linear magma have been read: of A, then of B, then c
pub record HasMatrixRows (w : MatrixWork) (a b c : List (List ℕ)) : Type 0 where
  pub some : 1 ≤ w.size
  pub small : w.size ≤ 4
  pub count_is : w.rows ≡ length a + length b + length c
  pub few_a : length a ≤ w.size
  pub few_b : length b ≤ w.size
  pub few_c : length c ≤ 1
  pub a_first : length a < w.size → b ≡ []
  pub b_before_c : length b < w.size → c ≡ []
  pub a_is : w.a ≡ concat a
  pub b_is : w.b ≡ concat b
  pub c_is : w.c ≡ concat c

-- how far a matrix-linear magma has come
abbrev pub matrix_place : MatrixWork → Matrices.Rows
matrix_place w = record { modulus = w.modulus; size = w.size; count = w.rows }

-- what its lines said
abbrev pub matrix_said : MatrixWork → List (List ℕ) → List (List ℕ) → List (List ℕ) → List MatrixLine
matrix_said w a b c = matrix w.modulus w.size ∷ rows_of a b c

-- with these entries more in the part
abbrev pub with_entries : MatrixWork → Part → List ℕ → MatrixWork
with_entries w A entries = record w { a = w.a ++ entries }
with_entries w B entries = record w { b = w.b ++ entries }
with_entries w C entries = record w { c = w.c ++ entries }

-- its first line opens one, and no other line
abbrev pub OpensMatrix : MatrixLine → Option MatrixWork → Type 0
OpensMatrix said None = opened_head (matrix_line said) ≡ None
OpensMatrix said (Some w) = (said ≡ matrix w.modulus w.size) × HasMatrixRows w [] [] []

-- the work goes on with this row
pub record TakesMatrixRow (old new : MatrixWork) (said : MatrixLine) (a b c : List (List ℕ)) : Type 0 where
  pub next_a : List (List ℕ)
  pub next_b : List (List ℕ)
  pub next_c : List (List ℕ)
  pub stands : Matrices.after_in_matrix (matrix_place old) said ≡ Some (matrix_place new)
  pub now : HasMatrixRows new next_a next_b next_c
  pub said_is : matrix_said new next_a next_b next_c ≡ matrix_said old a b c ++ said ∷ []

-- a row that may stand is taken, and no other line
abbrev pub TakesInMatrix : MatrixWork → MatrixLine → MatrixWork → Bool → Type 0
TakesInMatrix old said new true =
    (a b c : List (List ℕ)) → HasMatrixRows old a b c → TakesMatrixRow old new said a b c
TakesInMatrix old said new false = Matrices.after_in_matrix (matrix_place old) said ≡ None

-- the magma of the rows
abbrev pub matrix_told : MatrixWork → MatrixMagma
matrix_told w = record { modulus = w.modulus; size = w.size; a = w.a; b = w.b; c = w.c }

-- how far a rule system with this weight and so many rules has come
abbrev pub rules_place_with : Option (List ℕ) → ℕ → RulesPlace
rules_place_with None count = Systems.named
rules_place_with (Some weight) count = Systems.weighed count

abbrev pub rules_place : RulesWork → RulesPlace
rules_place w = rules_place_with w.weight (length w.rules)

-- what the lines of a system with this weight and these rules said
abbrev pub rules_said_with : Option (List ℕ) → List Rule → List RulesLine
rules_said_with None rs = Systems.rules ∷ []
rules_said_with (Some weight) rs = system_lines (weight_in weight) (rules_of rs)

abbrev pub rules_said : RulesWork → List RulesLine
rules_said w = rules_said_with w.weight w.rules

-- rules stand behind the weight alone
abbrev pub HasRules : RulesWork → Type 0
HasRules w = w.weight ≡ None → w.rules ≡ []

-- the line `rules` opens a system, and no other line
abbrev pub OpensRules : RulesLine → Option RulesWork → Type 0
OpensRules said None = opened_head (rules_line said) ≡ None
OpensRules said (Some w) = (said ≡ Systems.rules) × (w.weight ≡ None) × (w.rules ≡ [])

-- the work goes on with this line of the system
pub record TakesRulesLine (old new : RulesWork) (said : RulesLine) : Type 0 where
  pub stands : Systems.after_in_rules (rules_place old) said ≡ Some (rules_place new)
  pub now : HasRules new
  pub said_is : rules_said new ≡ rules_said old ++ said ∷ []

-- a line that may stand in a system is taken, and no other
abbrev pub TakesInRules : RulesWork → RulesLine → RulesWork → Bool → Type 0
TakesInRules old said new true = HasRules old → TakesRulesLine old new said
TakesInRules old said new false = Systems.after_in_rules (rules_place old) said ≡ None

-- the weight that was told; without one there are no rules
abbrev pub weight_told : Option (List ℕ) → List ℕ
weight_told weight = unwrap_or weight (0 ∷ 0 ∷ 0 ∷ [])

-- how far claims have come
abbrev pub claim_at : Bool → ClaimPlace
claim_at true = failing
claim_at false = holding

abbrev pub claim_place : ClaimsWork → ClaimPlace
claim_place w = claim_at w.failing

-- these lines of claims have been read
pub record HasClaims (w : ClaimsWork) (lines : List ClaimLine) : Type 0 where
  pub says : SaysClaims lines (claims_of w.claims)
  pub stage : w.failing ≡ false → says.failed ≡ []

-- laws that are to hold open claims
abbrev pub OpensClaims : ClaimLine → Option ClaimsWork → Type 0
OpensClaims said None = first_claim said ≡ None
OpensClaims said (Some w) = (first_claim said ≡ Some (claim_place w)) × HasClaims w (said ∷ [])

-- a line that may stand among claims is taken, and no other
abbrev pub TakesInClaims : ClaimsWork → ClaimLine → ClaimsWork → Bool → Type 0
TakesInClaims old said new true =
    (after_claim (claim_place old) said ≡ Some (claim_place new))
    × ((lines : List ClaimLine) → HasClaims old lines → HasClaims new (lines ++ said ∷ []))
TakesInClaims old said new false = after_claim (claim_place old) said ≡ None

-- the lines of a magma have come this far and said this
abbrev pub HasHead : MagmaWork → Head → List Line → Type 0
HasHead (Table w) head saids = (rows : List (List ℕ)) × HasRows w rows × (head ≡ Lines.rows (rows_place w rows))
    × (saids ≡ map table_line (table w.size ∷ map row rows))
HasHead (Linear l) head saids = (head ≡ Lines.linear (linear_of l)) × (saids ≡ linear_line (linear_of l) ∷ [])
HasHead (Matrix w) head saids = (a : List (List ℕ)) × (b : List (List ℕ)) × (c : List (List ℕ)) × HasMatrixRows w a b c
    × (head ≡ Lines.matrix (matrix_place w)) × (saids ≡ map matrix_line (matrix_said w a b c))
HasHead (Rules w) head saids = HasRules w × (head ≡ Lines.rules (rules_place w)) × (saids ≡ map rules_line (rules_said w))

-- the first line of a magma opens one, and no other line
abbrev pub OpensHead : Line → Option MagmaWork → Type 0
OpensHead said None = opened_head said ≡ None
OpensHead said (Some w) = (head : Head) × (opened_head said ≡ Some head) × HasHead w head (said ∷ [])

-- the work goes on with this line of the magma
pub record TakesHeadLine (old new : MagmaWork) (said : Line) (head : Head) (saids : List Line) : Type 0 where
  pub next : Head
  pub stands : next_head head said ≡ Some next
  pub has : HasHead new next (saids ++ said ∷ [])

-- a line of the magma that may stand is taken, and no other
abbrev pub TakesInHead : MagmaWork → Line → MagmaWork → Bool → Type 0
TakesInHead old said new true =
    (head : Head) (saids : List Line) → HasHead old head saids → TakesHeadLine old new said head saids
TakesInHead old said new false = (head : Head) (saids : List Line) → HasHead old head saids → next_head head said ≡ None

-- the magma is told
abbrev pub is_told_by : MagmaWork → Bool
is_told_by (Table w) = has_all_rows w
is_told_by (Linear l) = true
is_told_by (Matrix w) = Matrices.has_all (matrix_place w)
is_told_by (Rules w) = Systems.has_rule (rules_place w)

-- the magma that was told
abbrev pub told_by : MagmaWork → Bodies.Model
told_by (Table w) = Bodies.table w.size w.entries
told_by (Linear l) = Bodies.linear (linear_of l)
told_by (Matrix w) = Bodies.matrix (matrix_told w)
told_by (Rules w) = Bodies.rules (weight_in (weight_told w.weight)) (rules_of w.rules)

-- the lines of a magma and its claims have come to this place and said this
abbrev pub HasModel : MagmaWork → Option ClaimsWork → Place → List Line → Type 0
HasModel w None place saids = (head : Head) × HasHead w head saids × (place ≡ in_head head)
HasModel w (Some c) place saids = (head : Head) × (told : List Line) × (lines : List ClaimLine) × HasHead w head told
    × HasClaims c lines × (is_told head ≡ true) × (place ≡ in_claims (claim_place c))
    × (saids ≡ told ++ map claim_line lines)

-- the lines of the work have come to this place and said this
abbrev pub HasCome : Work → Place → List Line → Type 0
HasCome Opening place saids = (place ≡ opening) × (saids ≡ [])
HasCome (Proof w) place saids = (place ≡ in_proof (proof_place w)) × (saids ≡ map proof_line (proof_said w))
HasCome (Model w) place saids = HasModel w.magma w.claims place saids

-- the work goes on from one place to another
pub record GoesOn (old new : Work) (said : Line) (place : Place) (saids : List Line) : Type 0 where
  pub next : Place
  pub stands : after place said ≡ Some next
  pub come : HasCome new next (saids ++ said ∷ [])

-- a line that may stand is taken, and no other
abbrev pub Takes : Work → Line → Work → Bool → Type 0
Takes old said new true = (place : Place) (saids : List Line) → HasCome old place saids → GoesOn old new said place saids
Takes old said new false = (place : Place) (saids : List Line) → HasCome old place saids → after place said ≡ None

-- the work is this body, whole, or no body
abbrev pub IsWhole : Work → Option FileBody → Type 0
IsWhole work None = (place : Place) (saids : List Line) → HasCome work place saids → is_complete place ≡ false
IsWhole work (Some body) = (place : Place) (saids : List Line) → HasCome work place saids
    → (is_complete place ≡ true) × SaysBody saids body

-- a line with these law numbers was taken
pub record TakesLine (count : ℕ) (old new : Work) (line : List ℕ) (number : Option ℕ) : Type 0 where
  pub said : Line
  pub says : Says line said
  pub takes : Takes old said new true
  pub numbers : HasFirst count (numbers_of said) number

-- the line is blank, or can't stand, or was taken, with its first law number that isn't listed
abbrev pub GoesNext : ℕ → Work → Work → LineText → Next → Type 0
GoesNext count old new line Blank = (bytes : List ℕ) × (line ≡ whole bytes) × IsBlankLine bytes × (new ≡ old)
GoesNext count old new line Bad =
    (place : Place) (saids : List Line) → HasCome old place saids → HasNoPlace bodies place line
GoesNext count old new line (Taken number) =
    (bytes : List ℕ) × (line ≡ whole bytes) × TakesLine count old new bytes number

-- these lines have been pushed
pub record HasRead (reader : BodyReader) (lines : List LineText) : Type 0 where
  pub place : Place
  pub saids : List Line
  pub tallied : HasTallied bodies reader.tally saids place lines
  pub come : reader.tally.bad ≡ None → HasCome reader.work place saids
