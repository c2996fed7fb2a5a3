use Rattle.etp_rules.specs.Rules.{rules_of}
use Rattle.etp_items.specs.Bodies.{weight_of}
use Rattle.etp_evidence.proofs.SystemLaws.{never_refused}
use Rattle.etp_evidence.proofs.failing.rules_in.Goals as goal

pub unreachable-requires : goal.unreachable-requires
unreachable-requires c =
    never_refused (weight_of c.args.body.now) (rules_of c.args.body.now.rules) _ _ c.in-Err-Rules.ensures.err c.in-Err-Rules.field-0-is c.requires.magma.in_range c.requires.magma.allowed
