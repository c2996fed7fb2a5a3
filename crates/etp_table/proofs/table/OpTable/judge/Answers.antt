use Rattle.etp_table.proofs.Tables.{right_fact}
use Rattle.etp_table.proofs.table.OpTable.judge.Goals as goal

pub returns-clause-right : goal.returns-clause-right
returns-clause-right c =
    right_fact c.args.laws.now.equations c.args.self.now c.args.holds.now c.args.fails.now c.size-size.ensures.table (record { holding = c.in_ok-judge_holding.ensures.ok; failing = c.in_ok-judge_failing.ensures.ok })
