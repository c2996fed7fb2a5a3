use Rattle.std.proofs.Common.{take}
use Rattle.std.specs.Prelude.{All}
use Rattle.etp_rules.specs.Rules.{rules_of}
use Rattle.etp_canonical.specs.Judgements.{LawFails}
use Rattle.etp_canonical.proofs.judging.check_fails.Given as goal

abbrev pub invariant-loop-number : goal.invariant-loop-number
invariant-loop-number l = All (LawFails l.laws.equations (rules_of l.system.rules)) (take l.number-index l.fails)
