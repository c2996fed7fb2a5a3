-- Which lines and versions the values of the program stand for.
use Rattle.std.specs.Prelude.{◌≡◌, ◌∷◌, ℕ, Bool, List, Some, codes, slice_index}
use Rattle.etp_words.specs.Words.{words_of, behind_word}
use Rattle.etp_term.specs.Terms.{tree_of}
use Rattle.etp_proof.specs.Lemmas.{step_of}
use Rattle.etp_lines.specs.ProofLines.{Version, plain, citing, ProofLine, heading, cite, lemma, step, reference_of, reversed_of}
use Rattle.etp_lines.specs.TableLines.{TableLine, table, row}
use Rattle.etp_lines.specs.MatrixLines as Matrices
use Rattle.etp_lines.specs.MatrixLines.{MatrixLine, matrix}
use Rattle.etp_lines.specs.RulesLines.{RulesLine, rules, weight, rule}
use Rattle.etp_lines.specs.Claims.{ClaimLine, holds, fails}
use Rattle.etp_linear.specs.Magmas.{LinearMagma}
use Rattle.etp_rules.specs.Rules.{rule_of}
use Rattle.etp_lines.specs.BodyLines as Lines
use Rattle.etp_lines.specs.BodyLines.{of_proofs, of_tables, of_linear, of_matrices, of_rules, of_claims, proof_line, table_line, linear_line, matrix_line, rules_line, claim_line}
use Rattle.etp_lines.specs.declared.table.TableLine as Tables
use Rattle.etp_lines.specs.declared.table.TableLine.TheVariants.{Table, Row}
use Rattle.etp_lines.specs.declared.linear.LinearLine.{LinearLine}
use Rattle.etp_lines.specs.declared.matrix.MatrixLine as Matrix
use Rattle.etp_lines.specs.declared.matrix.MatrixLine.TheVariants as MatrixLines
use Rattle.etp_lines.specs.declared.rules.RulesLine as Systems
use Rattle.etp_lines.specs.declared.rules.RulesLine.TheVariants.{Rules, Weight, Rule}
use Rattle.etp_lines.specs.declared.claims.ClaimLine as Claims
use Rattle.etp_lines.specs.declared.claims.ClaimLine.TheVariants.{Holds, Fails}
use Rattle.etp_lines.specs.declared.line.Kind.{Kind}
use Rattle.etp_lines.specs.declared.line.Kind.TheVariants.{OfProofs, OfTables, OfLinear, OfMatrices, OfRules, OfClaims}
use Rattle.etp_lines.specs.declared.line.Line.{Line}
use Rattle.etp_lines.specs.declared.line.Line.TheVariants as Spoken
use Rattle.etp_lines.specs.declared.proof.Version as Versions
use Rattle.etp_lines.specs.declared.proof.Version.TheVariants.{Plain, Citing}
use Rattle.etp_lines.specs.declared.proof.ProofLine as Program
use Rattle.etp_lines.specs.declared.proof.ProofLine.TheVariants.{Heading, Cite, Lemma, Step}
use Rattle.etp_lines.specs.declared.proof.Reference.{Reference}
use Rattle.etp_lines.specs.declared.proof.StepWords.{StepWords}

-- the version
abbrev pub version_of : Versions.Version → Version
version_of Plain = plain
version_of Citing = citing

-- a number, and whether it is that of a cite
abbrev pub named_by : Reference → ℕ × Bool
named_by r = (r.line, r.cited)

-- what a line of a proof said
abbrev pub proof_line_of : Program.ProofLine → ProofLine
proof_line_of (Heading h) = heading (version_of h.version) h.hypothesis h.goal
proof_line_of (Cite name) = cite name
proof_line_of (Lemma t) = lemma (tree_of t)
proof_line_of (Step x) = step (step_of x)

-- what a line of a table said
abbrev pub table_line_of : Tables.TableLine → TableLine
table_line_of (Table size) = table size
table_line_of (Row entries) = row entries

-- what the line of a linear magma said
abbrev pub linear_of : LinearLine → LinearMagma
linear_of l = record { ring = l.ring; a = l.a; b = l.b; c = l.c }

-- what a line of a matrix-linear magma said
abbrev pub matrix_line_of : Matrix.MatrixLine → MatrixLine
matrix_line_of (MatrixLines.Matrix modulus size) = matrix modulus size
matrix_line_of (MatrixLines.Row part entries) = Matrices.row part entries

-- what a line of a rule system said
abbrev pub rules_line_of : Systems.RulesLine → RulesLine
rules_line_of Rules = rules
rules_line_of (Weight w) = weight (slice_index w 0) (slice_index w 1) (slice_index w 2)
rules_line_of (Rule r) = rule (rule_of r)

-- what a line of claims said
abbrev pub claim_line_of : Claims.ClaimLine → ClaimLine
claim_line_of (Holds numbers) = holds numbers
claim_line_of (Fails numbers) = fails numbers

-- the kind of a line
abbrev pub kind_of : Kind → Lines.Kind
kind_of OfProofs = of_proofs
kind_of OfTables = of_tables
kind_of OfLinear = of_linear
kind_of OfMatrices = of_matrices
kind_of OfRules = of_rules
kind_of OfClaims = of_claims

-- what a line said
abbrev pub line_of : Line → Lines.Line
line_of (Spoken.Proof line) = proof_line (proof_line_of line)
line_of (Spoken.Table line) = table_line (table_line_of line)
line_of (Spoken.Linear line) = linear_line (linear_of line)
line_of (Spoken.Matrix line) = matrix_line (matrix_line_of line)
line_of (Spoken.Rules line) = rules_line (rules_line_of line)
line_of (Spoken.Claim line) = claim_line (claim_line_of line)

-- the line has these words of a step, and this text where its term stands
pub record HasStepWords (line : List ℕ) (w : StepWords) : Type 0 where
  pub reference : List ℕ
  pub direction : List ℕ
  pub more : List (List ℕ)
  pub words : words_of line ≡ codes "step" ∷ reference ∷ direction ∷ w.position.now ∷ more
  pub by : reference_of reference ≡ Some (named_by w.reference)
  pub read : reversed_of direction ≡ Some w.reversed
  pub term : w.term.now ≡ behind_word (behind_word (behind_word (behind_word line)))
