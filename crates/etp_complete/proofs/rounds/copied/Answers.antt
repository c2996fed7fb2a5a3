use Rattle.std.proofs.Common.{List, [], ◌∷◌, ◌++◌, take, ap, ap₂, ◌∙◌, arith}
use Rattle.etp_rules.specs.declared.rule.Rule.{Rule}
use Rattle.etp_complete.proofs.Lists.{rule_with, one_more_taken, none_inside}
use Rattle.etp_complete.proofs.rounds.copied.Goals.{in-Some+in_ok-left+in_ok-right+in_ok-push, in_default}
use Rattle.etp_complete.proofs.rounds.copied.Goals as goal

pub loop-at-preserved : goal.loop-at-preserved
loop-at-preserved c = elim c.match-rule.branch [
  | in-Some+in_ok-left+in_ok-right+in_ok-push w ↦
      w.rules-is ∙ w.in_ok-push.ensures.ok
      ∙ ap (λ (rules : List Rule). rules ++ rule_with w.in_ok-left.left w.in_ok-right.right ∷ []) c.loop-at.invariant
      ∙ ap (λ (rule : Rule). take c.loop-at.at c.args.system.now.rules ++ rule ∷ []) (ap₂ rule_with w.in_ok-left.ensures w.in_ok-right.ensures)
      ∙ one_more_taken c.args.system.now.rules c.loop-at.at w.in-Some.rule.now w.in-Some.ensures
  | in_default w ↦ absurd (none_inside c.args.system.now.rules c.loop-at.at (omega (arith, c.loop-at-test.true, c.count-at-end.ensures)) w.in_default.ensures)
]
