use Rattle.std.proofs.Common.{List, sym, subst}
use Rattle.etp_theory.specs.Overlaps.{HasSmallVariables}
use Rattle.etp_rules.specs.Rules.{rules_of}
use Rattle.etp_rules.specs.Weighing.{weight_of}
use Rattle.etp_rules.specs.Deciding.{AreAllowed}
use Rattle.etp_rules.specs.declared.rule.Rule.{Rule}
use Rattle.etp_complete.proofs.rounds.next_round.Goals as goal

pub add_rule-requires-clause-variables : goal.add_rule-requires-clause-variables
add_rule-requires-clause-variables c =
    subst (λ (xs : List Rule). HasSmallVariables (rules_of xs)) (sym c.in_ok-rules-in-Forms.ensures) c.args.system.now.valid.small

pub add_rule-requires-clause-allowed : goal.add_rule-requires-clause-allowed
add_rule-requires-clause-allowed c =
    subst (λ w. AreAllowed w (rules_of c.in_ok-rules-in-Forms.rules)) c.requires.reached.weight_is
    (subst (λ (xs : List Rule). AreAllowed (weight_of c.args.system.now.weights) (rules_of xs)) (sym c.in_ok-rules-in-Forms.ensures) c.args.system.now.valid.allowed)
