use Rattle.std.proofs.Common.{All, take}
use Rattle.etp_table.specs.Judgements.{LawHolds}
use Rattle.etp_table.proofs.table.OpTable.judge_holding.Given as goal

abbrev pub invariant-loop-number : goal.invariant-loop-number
invariant-loop-number l = All (LawHolds l.laws.equations l.self) (take l.number-index l.holds)
