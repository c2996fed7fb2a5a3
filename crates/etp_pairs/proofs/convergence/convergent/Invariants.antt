use Rattle.etp_rules.specs.Rules.{rules_of}
use Rattle.etp_pairs.specs.Among.{AllPass}
use Rattle.etp_pairs.proofs.Order.{BelowOuter}
use Rattle.etp_pairs.proofs.convergence.convergent.Given as goal

abbrev pub invariant-loop-at : goal.invariant-loop-at
invariant-loop-at l = AllPass (rules_of l.fn.system.rules) (BelowOuter (rules_of l.fn.system.rules) l.at)
