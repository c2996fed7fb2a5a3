use Rattle.std.proofs.Common.{ap, sym, subst, ◌∙◌}
use Rattle.etp_theory.specs.Overlaps.{HasSmallVariables}
use Rattle.etp_term.specs.Terms.{tree_of}
use Rattle.etp_rules.specs.Rules.{rules_of}
use Rattle.etp_rules.specs.Deciding.{weight_in}
use Rattle.etp_complete.proofs.Directions.{more_rules, longer_small, decreasing, refused_rule, refused_size}
use Rattle.etp_complete.proofs.growing.with_rule.Goals as goal

pub of-requires-clause-variables : goal.of-requires-clause-variables
of-requires-clause-variables c =
    let s = tree_of c.args.from.now in
    let t = tree_of c.args.to.now in
    let n = c.in_ok-numbered.numbered in
    let more = more_rules c.args.rules.now c.in_ok-longer.longer c.push.new.self n s t c.in_ok-numbered.ensures.numbered c.in_ok-longer.ensures c.in_ok-push.ensures.ok in
    subst HasSmallVariables (sym more)
    (longer_small (rules_of c.args.rules.now) s t n c.requires.variables c.in_ok-numbered.ensures.numbered c.in_ok-numbered.ensures.few c.requires.left c.requires.right)

pub unreachable-requires : goal.unreachable-requires
unreachable-requires c =
    let s = tree_of c.args.from.now in
    let t = tree_of c.args.to.now in
    let more = more_rules c.args.rules.now c.in_ok-longer.longer c.push.new.self c.in_ok-numbered.numbered s t c.in_ok-numbered.ensures.numbered c.in_ok-longer.ensures c.in_ok-push.ensures.ok in
    refused_size (weight_in c.args.weight) (rules_of c.args.rules.now) s t (rules_of c.push.new.self) c.in-Err-SideTooLarge.field-0 c.in-Err-SideTooLarge.field-0-0 more c.requires.allowed c.requires.left c.requires.right c.in-Err-SideTooLarge.field-0-is c.in-Err-SideTooLarge.ensures.err

pub returns-in-Ok : goal.returns-in-Ok
returns-in-Ok c =
    let s = tree_of c.args.from.now in
    let t = tree_of c.args.to.now in
    let more = more_rules c.args.rules.now c.in_ok-longer.longer c.push.new.self c.in_ok-numbered.numbered s t c.in_ok-numbered.ensures.numbered c.in_ok-longer.ensures c.in_ok-push.ensures.ok in
    decreasing (weight_in c.args.weight) (rules_of c.args.rules.now) s t c.in-Ok.system c.in-Ok.system.valid c.in-Ok.ensures.weight (ap rules_of c.in-Ok.ensures.rules ∙ more)

pub returns-in-Err-NotDecreasing : goal.returns-in-Err-NotDecreasing
returns-in-Err-NotDecreasing c =
    let s = tree_of c.args.from.now in
    let t = tree_of c.args.to.now in
    let more = more_rules c.args.rules.now c.in_ok-longer.longer c.push.new.self c.in_ok-numbered.numbered s t c.in_ok-numbered.ensures.numbered c.in_ok-longer.ensures c.in_ok-push.ensures.ok in
    refused_rule (weight_in c.args.weight) (rules_of c.args.rules.now) s t (rules_of c.push.new.self) c.in-Err-NotDecreasing.field-0 c.in-Err-NotDecreasing.field-0-0 c.in-Err-NotDecreasing.field-0-1 more c.requires.allowed c.in-Err-NotDecreasing.field-0-is c.in-Err-NotDecreasing.ensures.err
