use Rattle.std.proofs.Common.{refl}
use Rattle.etp_lines.specs.BodyLines as Lines
use Rattle.etp_lines.specs.Said.{linear_of, table_line_of, matrix_line_of, rules_line_of}
use Rattle.etp_items.proofs.MatrixLemmas.{matrix_opens}
use Rattle.etp_items.proofs.RulesLemmas.{rules_open}
use Rattle.etp_items.proofs.ModelLemmas.{table_opens}
use Rattle.etp_items.proofs.magma.MagmaWork.open.Goals as goal

pub returns-in_err-work-in-Table : goal.returns-in_err-work-in-Table
returns-in_err-work-in-Table c = rw (c.from_residual.ensures, c.in-Table.is) (rw c.in_err-work-in-Table.was at c.open.ensures)

pub returns-in-Table : goal.returns-in-Table
returns-in-Table c = rw c.in-Table.is (table_opens (table_line_of c.in-Table.said) c.in_ok-work-in-Table.work (rw c.in_ok-work-in-Table.was at c.open.ensures))

pub returns-in-Linear : goal.returns-in-Linear
returns-in-Linear c = rw c.in-Linear.is (Lines.linear (linear_of c.in-Linear.said), refl, (refl, refl))

pub returns-in_err-work-in-Matrix : goal.returns-in_err-work-in-Matrix
returns-in_err-work-in-Matrix c = rw (c.from_residual-in_err-work-in-Matrix.ensures, c.in-Matrix.is) (rw c.in_err-work-in-Matrix.was at c.open-in-Matrix.ensures)

pub returns-in-Matrix : goal.returns-in-Matrix
returns-in-Matrix c = rw c.in-Matrix.is (matrix_opens (matrix_line_of c.in-Matrix.said) c.in_ok-work-in-Matrix.work (rw c.in_ok-work-in-Matrix.was at c.open-in-Matrix.ensures))

pub returns-in_err-work-in-Rules : goal.returns-in_err-work-in-Rules
returns-in_err-work-in-Rules c = rw (c.from_residual-in_err-work-in-Rules.ensures, c.in-Rules.is) (rw c.in_err-work-in-Rules.was at c.open-in-Rules.ensures)

pub returns-in-Rules : goal.returns-in-Rules
returns-in-Rules c = rw c.in-Rules.is (rules_open (rules_line_of c.in-Rules.said) c.in_ok-work-in-Rules.work (rw c.in_ok-work-in-Rules.was at c.open-in-Rules.ensures))
