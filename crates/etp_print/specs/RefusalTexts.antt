-- The texts of refusals.
use Rattle.std.specs.Prelude.{ℕ, ℤ, ◌+◌, List, [], ◌∷◌, ◌++◌, take, codes, decimal, Option, None, Some}
use Rattle.std.specs.Fmt.{signed_decimal}
use Rattle.etp_term.specs.Terms.{tree_of}
use Rattle.etp_laws.specs.declared.laws.Numbered.{Numbered}
use Rattle.etp_laws.specs.declared.laws.Numbered.TheVariants.{Is, Trivial, TooManyOps}
use Rattle.etp_text.specs.declared.refusal.TextRefusal.{TextRefusal}
use Rattle.etp_text.specs.declared.refusal.TextRefusal.TheVariants as Text
use Rattle.etp_reading.specs.declared.refusal.BodyRefusal.{BodyRefusal}
use Rattle.etp_reading.specs.declared.refusal.BodyRefusal.TheVariants.{BadLine, TooManyLines, Unfinished, UnknownLaw}
use Rattle.etp_check.specs.declared.refusal.CheckRefusal.{CheckRefusal}
use Rattle.etp_check.specs.declared.refusal.CheckRefusal.TheVariants as Checked
use Rattle.etp_ledger.specs.declared.refusal.LedgerRefusal.{LedgerRefusal}
use Rattle.etp_ledger.specs.declared.refusal.LedgerRefusal.TheVariants as Files
use Rattle.etp_replay.specs.declared.refusal.ReplayRefusal.{ReplayRefusal}
use Rattle.etp_text.specs.Written.{variable_name}
use Rattle.etp_table.specs.Points.{values_of}
use Rattle.etp_table.specs.declared.refusal.TableRefusal.{TableRefusal}
use Rattle.etp_table.specs.declared.refusal.TableRefusal.TheVariants as Table
use Rattle.etp_linear.specs.declared.parts.Which.{Which}
use Rattle.etp_linear.specs.declared.parts.Which.TheVariants.{Modulus, A, B, C}
use Rattle.etp_linear.specs.declared.parts.LinearFailure.{LinearFailure}
use Rattle.etp_linear.specs.declared.refusal.LinearRefusal.{LinearRefusal}
use Rattle.etp_linear.specs.declared.refusal.LinearRefusal.TheVariants as Linear
use Rattle.etp_matrix.specs.declared.parts.Part.{Part}
use Rattle.etp_matrix.specs.declared.parts.MatrixFailure.{MatrixFailure}
use Rattle.etp_matrix.specs.declared.refusal.MatrixRefusal.{MatrixRefusal}
use Rattle.etp_matrix.specs.declared.refusal.MatrixRefusal.TheVariants as Matrix
use Rattle.etp_lines.specs.MatrixLines.{part_word}
use Rattle.etp_print.specs.RulesTexts.{rules_refusal, pairs_refusal, holds_fails_text, fails_holds_text}
use Rattle.etp_replay.specs.declared.refusal.ReplayRefusal.TheVariants.{Reference, NoPlace, OutsideChanged, NoMatch, GoalDiffers, Citation, NoMemory}

-- why the text of a law is refused
abbrev pub text_refusal : TextRefusal → List ℕ
text_refusal (Text.Syntax at) = codes "syntax at " ++ decimal at
text_refusal (Text.Variable at) = codes "variable at " ++ decimal at
text_refusal (Text.TooLarge count) = codes "too large " ++ decimal count
text_refusal Text.NoMemory = []

-- why the lines of a body are refused
abbrev pub body_refusal : BodyRefusal → List ℕ
body_refusal (BadLine line) = codes "bad line " ++ decimal line
body_refusal (TooManyLines line) = codes "too many lines"
body_refusal (Unfinished line) = codes "unfinished at " ++ decimal line
body_refusal (UnknownLaw line number) = codes "unknown law " ++ decimal number ++ codes " in line " ++ decimal line

-- what was found in the place of the goal
abbrev pub found_text : Numbered → List ℕ
found_text (Is n) = decimal n
found_text Trivial = codes "trivial"
found_text (TooManyOps n) = codes "operations " ++ decimal n

-- the place of a step
abbrev pub step_place : ℕ → ℕ → List ℕ
step_place lemma step = codes " lemma " ++ decimal lemma ++ codes " step " ++ decimal step

-- why a proof is refused
abbrev pub replay_refusal : ReplayRefusal → List ℕ
replay_refusal (Reference lemma step line) = codes "reference" ++ step_place lemma step ++ codes " line " ++ decimal line
replay_refusal (NoPlace lemma step) = codes "no place" ++ step_place lemma step
replay_refusal (OutsideChanged lemma step) = codes "outside changed" ++ step_place lemma step
replay_refusal (NoMatch lemma step) = codes "no match" ++ step_place lemma step
replay_refusal (GoalDiffers found) = codes "goal differs found " ++ found_text found
replay_refusal (Citation lemma step cite) = codes "citation" ++ step_place lemma step ++ codes " cite " ++ decimal cite
replay_refusal NoMemory = []

-- the value of a variable, behind a space
abbrev pub value_text : ℕ → ℕ → List ℕ
value_text variable value = codes " " ++ variable_name variable ++ codes "=" ++ decimal value

-- the values of the variables from variable n on
abbrev pub values_text : ℕ → List ℕ → List ℕ
values_text n [] = []
values_text n (value ∷ values) = value_text n value ++ values_text (n + 1) values

-- a size, and how many variables there are
abbrev pub counts_text : ℕ → ℕ → List ℕ
counts_text size variables = codes " size " ++ decimal size ++ codes " variables " ++ decimal variables

-- the values of both sides
abbrev pub sides_text : ℕ → ℕ → List ℕ
sides_text left right = codes " left " ++ decimal left ++ codes " right " ++ decimal right

-- why a table is refused
abbrev pub table_refusal : TableRefusal → List ℕ
table_refusal (Table.Entry row column value) =
    codes "entry row " ++ decimal row ++ codes " column " ++ decimal column ++ codes " value " ++ decimal value
table_refusal (Table.TooManyAssignments law size variables) =
    codes "too many assignments law " ++ decimal law ++ counts_text size variables
table_refusal (Table.HoldsFails law point left right) =
    codes "holds fails law " ++ decimal law ++ values_text 0 (values_of point) ++ sides_text left right
table_refusal (Table.FailsHolds law looked_at) =
    codes "fails holds law " ++ decimal law ++ codes " looked at " ++ decimal looked_at
table_refusal Table.NoMemory = []

-- what is out of range
abbrev pub which_word : Which → List ℕ
which_word Modulus = codes "modulus"
which_word A = codes "a"
which_word B = codes "b"
which_word C = codes "c"

-- and its value
abbrev pub coefficient_text : Which → ℤ → List ℕ
coefficient_text which value = codes "coefficient " ++ which_word which ++ codes " value " ++ signed_decimal value

-- all zero, or the variable that is 1 while all others are zero, behind a space
abbrev pub unit_text : Option ℕ → List ℕ
unit_text None = codes " zero"
unit_text (Some variable) = value_text variable 1

-- where a law fails in a linear magma, and the values of both sides
abbrev pub failure_text : LinearFailure → List ℕ
failure_text f =
    unit_text f.variable ++ codes " left " ++ signed_decimal f.left ++ codes " right " ++ signed_decimal f.right

-- why a linear magma is refused
abbrev pub linear_refusal : LinearRefusal → List ℕ
linear_refusal (Linear.Coefficient which value) = coefficient_text which value
linear_refusal (Linear.HoldsFails law failure) = codes "holds fails law " ++ decimal law ++ failure_text failure
linear_refusal (Linear.FailsHolds law) = codes "fails holds law " ++ decimal law

-- numbers, each behind a comma
abbrev pub comma_behind : List ℕ → List ℕ
comma_behind [] = []
comma_behind (number ∷ numbers) = 44 ∷ (decimal number ++ comma_behind numbers)

-- numbers, with a comma between two
abbrev pub with_commas : List ℕ → List ℕ
with_commas [] = []
with_commas (number ∷ numbers) = decimal number ++ comma_behind numbers

-- all zero, or the variable that is a unit vector while all others are zero, behind a space
abbrev pub unit_vector_text : Option (ℕ × ℕ) → List ℕ
unit_vector_text None = codes " zero"
unit_vector_text (Some p) = codes " " ++ variable_name p.0 ++ codes "=e" ++ decimal p.1

-- the vectors of both sides
abbrev pub vectors_text : ℕ → MatrixFailure → List ℕ
vectors_text size f =
    codes " left " ++ with_commas (take size f.left) ++ codes " right " ++ with_commas (take size f.right)

-- a number that is out of range, and its place
abbrev pub matrix_entry_text : Part → ℕ → ℕ → ℕ → List ℕ
matrix_entry_text part row column value =
    codes "matrix entry " ++ part_word part ++ codes " row " ++ decimal row ++ codes " column " ++ decimal column ++ codes " value " ++ decimal value

-- why a matrix-linear magma over vectors of so many numbers is refused
abbrev pub matrix_refusal : ℕ → MatrixRefusal → List ℕ
matrix_refusal size (Matrix.Modulus value) = codes "modulus value " ++ decimal value
matrix_refusal size (Matrix.Entry part row column value) = matrix_entry_text part row column value
matrix_refusal size (Matrix.HoldsFails law failure) =
    codes "holds fails law " ++ decimal law ++ unit_vector_text failure.at ++ vectors_text size failure
matrix_refusal size (Matrix.FailsHolds law) = codes "fails holds law " ++ decimal law

-- why a body isn't valid, where its vectors, if it has any, have so many numbers
abbrev pub check_refusal : ℕ → CheckRefusal → List ℕ
check_refusal size (Checked.Replay r) = replay_refusal r
check_refusal size (Checked.Table r) = table_refusal r
check_refusal size (Checked.Linear r) = linear_refusal r
check_refusal size (Checked.Matrix r) = matrix_refusal size r
check_refusal size (Checked.Rules r) = rules_refusal r
check_refusal size (Checked.Pairs r) = pairs_refusal r
check_refusal size (Checked.HoldsFails law u v) = holds_fails_text law (tree_of u) (tree_of v)
check_refusal size (Checked.FailsHolds law u) = fails_holds_text law (tree_of u)
check_refusal size (Checked.TermLimit law) = codes "term limit law " ++ decimal law
check_refusal size (Checked.StepLimit law) = codes "step limit law " ++ decimal law
check_refusal size Checked.NoMemory = []

-- why the ledger refuses a file
abbrev pub file_refusal : ℕ → LedgerRefusal → List ℕ
file_refusal size (Files.Check r) = check_refusal size r
file_refusal size (Files.CiteMissing cite) = codes "cite missing " ++ decimal cite
file_refusal size (Files.CiteOther cite) = codes "cite other " ++ decimal cite
file_refusal size _ = []
