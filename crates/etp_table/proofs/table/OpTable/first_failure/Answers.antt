use Rattle.std.proofs.Common.{arith}
use Rattle.etp_term.specs.Laws.{equation_of}
use Rattle.etp_table.proofs.Tables.{few_variables}
use Rattle.etp_table.proofs.table.OpTable.first_failure.Goals as goal

pub variables_of-requires : goal.variables_of-requires
variables_of-requires c = few_variables (equation_of c.args.law.now) c.requires.listed c.requires.small

pub unreachable-requires : goal.unreachable-requires
unreachable-requires c =
    let few = few_variables (equation_of c.args.law.now) c.requires.listed c.requires.small in
    omega arith
