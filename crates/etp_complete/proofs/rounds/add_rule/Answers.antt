use Rattle.std.proofs.Common.{subst}
use Rattle.etp_term.specs.Terms.{tree_of}
use Rattle.etp_rules.specs.Rules.{rules_of}
use Rattle.etp_rules.specs.Deciding.{weight_in}
use Rattle.etp_complete.specs.Rounds.{IsGrowth}
use Rattle.etp_complete.proofs.Goings.{grown, weighed}
use Rattle.etp_complete.proofs.rounds.add_rule.Goals as goal

pub returns-in-Grown : goal.returns-in-Grown
returns-in-Grown c =
    let h = subst (IsGrowth (weight_in c.args.weight) (rules_of c.args.rules.now) (tree_of c.args.left) (tree_of c.args.right)) c.in-Grown.is c.in_ok-system.ensures in
    grown c.args.weight (rules_of c.args.rules.now) c.args.origin c.args.left c.args.right c.in-Grown.system h

pub returns-in-WeightRange : goal.returns-in-WeightRange
returns-in-WeightRange c =
    let h = subst (IsGrowth (weight_in c.args.weight) (rules_of c.args.rules.now) (tree_of c.args.left) (tree_of c.args.right)) c.in-WeightRange.is c.in_ok-system.ensures in
    weighed c.args.weight (rules_of c.args.rules.now) c.args.origin c.args.left c.args.right c.in-WeightRange.which h
