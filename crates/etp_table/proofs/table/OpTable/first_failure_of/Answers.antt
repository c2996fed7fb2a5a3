use Rattle.std.proofs.Common.{arith, subst}
use Rattle.etp_theory.specs.Trees.{Equation}
use Rattle.etp_term.specs.Laws.{equation_of}
use Rattle.etp_laws.proofs.Variables.{HasVariables-bound}
use Rattle.etp_table.specs.Verdicts.{IsVerdict}
use Rattle.etp_table.proofs.Tables.{few_variables, tells}
use Rattle.etp_table.proofs.table.OpTable.first_failure_of.Goals as goal

pub variables_of-count-requires : goal.variables_of-count-requires
variables_of-count-requires g c = few_variables (equation_of c.args.law.now) c.requires.listed c.requires.small

pub assignments-requires : goal.assignments-requires
assignments-requires g c =
    let few = few_variables (equation_of c.args.law.now) c.requires.listed c.requires.small in
    let is = c.variables_of-count.ensures.value in
    omega arith

pub of-requires-clause-few : goal.of-requires-clause-few
of-requires-clause-few g c =
    let few = few_variables (equation_of c.args.law.now) c.requires.listed c.requires.small in
    let is = c.variables_of-count.ensures.value in
    omega arith

pub returns-clause-tells : goal.returns-clause-tells
returns-clause-tells g c =
    tells c.args.self.now (equation_of c.args.law.now) c.walk.result
    (subst (λ (e : Equation). IsVerdict c.args.self.now e c.walk.result) c.of.ensures.law c.walk.ensures)

pub returns-clause-variables : goal.returns-clause-variables
returns-clause-variables g c = HasVariables-bound (equation_of c.args.law.now) c.requires.listed
