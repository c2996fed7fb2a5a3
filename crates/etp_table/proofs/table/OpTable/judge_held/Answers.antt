use Rattle.std.proofs.Common.{◌≡◌, ◌≤◌, ◌^◌, arith, ap, ◌∙◌}
use Rattle.etp_term.specs.Laws.{equation_of}
use Rattle.etp_table.specs.Verdicts.{assignments, limit}
use Rattle.etp_table.proofs.Tables.{few_variables, holds_in_lists}
use Rattle.etp_table.proofs.table.OpTable.judge_held.Goals as goal

pub variables_of-variables-requires : goal.variables_of-variables-requires
variables_of-variables-requires c = few_variables (equation_of c.listed-law.result.now) c.listed-law.ensures.listed c.listed-law.ensures.small

pub assignments-requires : goal.assignments-requires
assignments-requires c =
    let few = few_variables (equation_of c.listed-law.result.now) c.listed-law.ensures.listed c.listed-law.ensures.small in
    let is = c.variables_of-variables.ensures.value in
    omega arith

pub returns-in-Holds-clause-ok : goal.returns-in-Holds-clause-ok
returns-in-Holds-clause-ok c =
    let e = equation_of c.listed-law.result.now in
    let many : c.assignments.result ≡ assignments c.args.self.now e = c.assignments.ensures ∙ ap (λ k. c.args.self.now.size ^ k) c.variables_of-variables.ensures.value in
    let low = c.if-assignments-gt-LOOKED_AT.false in
    let few : assignments c.args.self.now e ≤ limit = omega arith in
    record {
      law = e;
      listed = c.listed-law.ensures.law;
      few = few;
      holds = holds_in_lists c.args.self.now e c.in-Holds.ensures.verdict.1 few;
    }
