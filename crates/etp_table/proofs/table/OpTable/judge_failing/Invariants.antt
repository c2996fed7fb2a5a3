use Rattle.std.proofs.Common.{All, take}
use Rattle.etp_table.specs.Judgements.{LawFails}
use Rattle.etp_table.proofs.table.OpTable.judge_failing.Given as goal

abbrev pub invariant-loop-number : goal.invariant-loop-number
invariant-loop-number l = All (LawFails l.laws.equations l.self) (take l.number-index l.fails)
