use Rattle.etp_lines.specs.Said.{table_line_of, matrix_line_of, rules_line_of}
use Rattle.etp_items.proofs.MatrixLemmas.{matrix_takes_ok}
use Rattle.etp_items.proofs.RulesLemmas.{rules_take_ok}
use Rattle.etp_items.proofs.ModelLemmas.{table_takes_ok}
use Rattle.etp_items.proofs.magma.MagmaWork.take.Goals as goal

pub returns-in-Table-said-clause-ok : goal.returns-in-Table-said-clause-ok
returns-in-Table-said-clause-ok c =
    rw c.in-Table.is (rw c.in-Table-said.is (table_takes_ok c.in-Table.work c.take.new.self (table_line_of c.in-Table-said.said) c.take.result c.take.ensures.ok))

pub returns-in-Matrix-said-clause-ok : goal.returns-in-Matrix-said-clause-ok
returns-in-Matrix-said-clause-ok c =
    rw c.in-Matrix.is (rw c.in-Matrix-said.is (matrix_takes_ok c.in-Matrix.work c.take-in-Matrix-said.new.self (matrix_line_of c.in-Matrix-said.said) c.take-in-Matrix-said.result c.take-in-Matrix-said.ensures.ok))

pub returns-in-Rules-said-clause-ok : goal.returns-in-Rules-said-clause-ok
returns-in-Rules-said-clause-ok c =
    rw c.in-Rules.is (rw c.in-Rules-said.is (rules_take_ok c.in-Rules.work c.take-in-Rules-said.new.self (rules_line_of c.in-Rules-said.said) c.take-in-Rules-said.result c.take-in-Rules-said.ensures.ok))
