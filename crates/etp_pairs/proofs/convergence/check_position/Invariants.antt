use Rattle.etp_term.specs.Positions.{position_of}
use Rattle.etp_rules.specs.Rules.{rules_of}
use Rattle.etp_pairs.specs.Among.{AllPass}
use Rattle.etp_pairs.proofs.Order.{BelowInner}
use Rattle.etp_pairs.proofs.convergence.check_position.Given as goal

abbrev pub invariant-loop-at : goal.invariant-loop-at
invariant-loop-at l =
    AllPass (rules_of l.fn.system.rules) (BelowInner (rules_of l.fn.system.rules) l.fn.outer (position_of l.fn.position) l.at)
