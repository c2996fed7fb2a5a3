use Rattle.etp_theory.specs.Proofs.{AgreeOutside}
use Rattle.etp_term.specs.Terms.{tree_of}
use Rattle.etp_term.specs.Positions.{position_of}
use Rattle.etp_replay.specs.Lines.{sides_of}
use Rattle.etp_match.specs.Bindings.{partial_of}
use Rattle.etp_replay.proofs.Extending.{right_step, no_match}
use Rattle.etp_replay.proofs.Outside.{agreed}
use Rattle.etp_replay.proofs.checking.test_step.Goals as goal

pub returns-then-not-matches-2 : goal.returns-then-not-matches-2
returns-then-not-matches-2 c =
    let agree : AgreeOutside (position_of c.args.step.now.position) (tree_of c.args.from.now) (tree_of c.args.step.now.to) =
    agreed c.as_slice.result.now c.args.step.now.position _ _ (tree_of c.in-Some-Some.before.now) (tree_of c.in-Some-Some.after.now) c.agree_outside.result c.as_slice.ensures c.agree_outside.ensures c.if-not-agree_outside.false c.in-Some-Some.ensures c.in-Some-Some.ensures' in
    no_match (sides_of c.args.sides) (position_of c.args.step.now.position) (tree_of c.args.from.now) (tree_of c.args.step.now.to) (tree_of c.in-Some-Some.before.now) (tree_of c.in-Some-Some.after.now) c.clear.new.self (partial_of c.matches.new.self) c.in-Some-Some.ensures c.in-Some-Some.ensures' agree c.clear.ensures (c.matches.ensures.yes c.if-not-matches.false) (c.matches-in-Some-Some.ensures.no c.if-not-matches-2.true)

pub returns-else-not-matches-2 : goal.returns-else-not-matches-2
returns-else-not-matches-2 c =
    let agree : AgreeOutside (position_of c.args.step.now.position) (tree_of c.args.from.now) (tree_of c.args.step.now.to) =
    agreed c.as_slice.result.now c.args.step.now.position _ _ (tree_of c.in-Some-Some.before.now) (tree_of c.in-Some-Some.after.now) c.agree_outside.result c.as_slice.ensures c.agree_outside.ensures c.if-not-agree_outside.false c.in-Some-Some.ensures c.in-Some-Some.ensures' in
    right_step (sides_of c.args.sides) (position_of c.args.step.now.position) (tree_of c.args.from.now) (tree_of c.args.step.now.to) (tree_of c.in-Some-Some.before.now) (tree_of c.in-Some-Some.after.now) (partial_of c.clear.new.self) (partial_of c.matches.new.self) (partial_of c.matches-in-Some-Some.new.self) c.in-Some-Some.ensures c.in-Some-Some.ensures' agree (c.matches.ensures.yes c.if-not-matches.false) (c.matches-in-Some-Some.ensures.yes c.if-not-matches-2.false)
