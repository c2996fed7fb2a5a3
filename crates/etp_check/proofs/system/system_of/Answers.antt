use Rattle.std.proofs.Common.{List, sym, subst}
use Rattle.etp_theory.specs.Overlaps.{HasSmallVariables}
use Rattle.etp_rules.specs.Rules.{rules_of}
use Rattle.etp_rules.specs.declared.rule.Rule.{Rule}
use Rattle.etp_check.proofs.system.system_of.Goals as goal

pub of-requires-clause-variables : goal.of-requires-clause-variables
of-requires-clause-variables c =
    subst (λ (rules : List Rule). HasSmallVariables (rules_of rules)) (sym c.in_ok-rules.ensures) c.requires.small
