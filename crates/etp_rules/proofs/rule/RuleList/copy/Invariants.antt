use Rattle.std.proofs.Common.{◌≡◌, take}
use Rattle.etp_rules.proofs.rule.RuleList.copy.Given as goal

abbrev pub invariant-loop-at : goal.invariant-loop-at
invariant-loop-at l = l.copy ≡ take l.at l.fn.self
