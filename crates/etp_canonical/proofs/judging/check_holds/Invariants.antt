use Rattle.std.proofs.Common.{take}
use Rattle.std.specs.Prelude.{All}
use Rattle.etp_rules.specs.Rules.{rules_of}
use Rattle.etp_canonical.specs.Judgements.{LawHolds}
use Rattle.etp_canonical.proofs.judging.check_holds.Given as goal

abbrev pub invariant-loop-number : goal.invariant-loop-number
invariant-loop-number l = All (LawHolds l.laws.equations (rules_of l.system.rules)) (take l.number-index l.holds)
