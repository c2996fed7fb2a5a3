use Rattle.std.proofs.Common.{◌≡◌, ◌+◌, length}
use Rattle.etp_rules.specs.Rules.{rules_of}
use Rattle.etp_complete.specs.Rounds.{problem, IsReached}
use Rattle.etp_complete.proofs.completing.run.Given as goal

abbrev pub invariant-loop-made : goal.invariant-loop-made
invariant-loop-made l =
    IsReached (problem l.fn.laws.equations l.fn.asked) l.system × (length (rules_of l.system.rules) ≡ l._made + 1)
