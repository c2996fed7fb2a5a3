-- Where a law that fails in the magma of a file fails first.
use Rattle.std.specs.Prelude.{◌≡◌, ◌++◌, ℕ, List, Some}
use Rattle.etp_theory.specs.Trees.{Tree, Equation}
use Rattle.etp_theory.specs.LawNumbers.{law_numbered}
use Rattle.etp_theory.specs.FailingOverlaps.{two_forms}
use Rattle.etp_table.specs.Tables.{IsTable}
use Rattle.etp_table.specs.Verdicts.{IsFirstFailure}
use Rattle.etp_table.specs.Judgements as Tables
use Rattle.etp_table.specs.declared.point.Point.{Point}
use Rattle.etp_linear.specs.Magmas.{IsLinearMagma}
use Rattle.etp_linear.specs.Judgements as Linears
use Rattle.etp_linear.specs.declared.parts.LinearFailure.{LinearFailure}
use Rattle.etp_matrix.specs.Magmas.{IsMatrixMagma}
use Rattle.etp_matrix.specs.Judgements as Matrices
use Rattle.etp_matrix.specs.declared.parts.MatrixFailure.{MatrixFailure}
use Rattle.etp_canonical.specs.Judgements as Systems
use Rattle.etp_items.specs.Bodies.{FileBody, Model, table, linear, matrix, rules, proof, model}
use Rattle.etp_check.specs.Checks.{HasRules, IsRuleMagma}
use Rattle.etp_print.specs.EvidenceTexts.{table_failure, linear_failure, matrix_failure, rules_failure}

-- the magma is one, and law n fails there; in a table at one of the assignments that are looked at
abbrev pub FailsIn : List Equation → Model → ℕ → Type 0
FailsIn laws (table size entries) n =
    IsTable (record { size = size; entries = entries })
    × Tables.LawFails laws (record { size = size; entries = entries }) n
FailsIn laws (linear l) n = IsLinearMagma l × Linears.LawFails laws l n
FailsIn laws (matrix g) n = IsMatrixMagma g × Matrices.LawFails laws g n
FailsIn laws (rules w rs) n = HasRules rs × IsRuleMagma w rs × Systems.LawFails laws rs n

abbrev pub FailsInBody : List Equation → FileBody → ℕ → Type 0
FailsInBody laws (proof p) n = ⊥
FailsInBody laws (model m claims) n = FailsIn laws m n

-- law n fails first at an assignment of a table, and the line says so
pub record IsTableFailure (laws : List Equation) (size : ℕ) (entries : List ℕ) (n : ℕ) (line : List ℕ) : Type 0 where
  pub law : Equation
  pub listed : law_numbered laws n ≡ Some law
  pub point : Point
  pub left : ℕ
  pub right : ℕ
  pub first : IsFirstFailure (record { size = size; entries = entries }) law point left right
  pub line_is : line ≡ table_failure n point left right

-- the sides of law n have two normal forms in a rule system, and the line says them
pub record IsRulesFailure (laws rs : List Equation) (n : ℕ) (line : List ℕ) : Type 0 where
  pub left_form : Tree
  pub right_form : Tree
  pub found : Systems.IsFoundOf laws rs n (two_forms left_form right_form)
  pub line_is : line ≡ rules_failure n left_form right_form

-- the line says where law n fails first in the magma, and the two values there
abbrev pub IsFailureLine : List Equation → Model → ℕ → List ℕ → Type 0
IsFailureLine laws (table size entries) n line = IsTableFailure laws size entries n line
IsFailureLine laws (linear l) n line =
    (f : LinearFailure) × Linears.LawFailsBy laws l n f × (line ≡ linear_failure n f)
IsFailureLine laws (matrix g) n line =
    (f : MatrixFailure) × Matrices.LawFailsBy laws g n f × (line ≡ matrix_failure n g.size f)
IsFailureLine laws (rules w rs) n line = IsRulesFailure laws rs n line

abbrev pub IsBodyFailure : List Equation → FileBody → ℕ → List ℕ → Type 0
IsBodyFailure laws (proof p) n line = ⊥
IsBodyFailure laws (model m claims) n line = IsFailureLine laws m n line

-- a line of which `Is` holds was appended
pub record Appends (old new : List ℕ) (Is : List ℕ → Type 0) : Type 0 where
  pub line : List ℕ
  pub is : Is line
  pub appended : new ≡ old ++ line
