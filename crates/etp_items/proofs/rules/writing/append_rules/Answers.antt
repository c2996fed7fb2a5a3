use Rattle.std.proofs.Common.{◌∙◌, arith}
use Rattle.etp_items.proofs.RulesText.{more_rules, not_past, all_rules}
use Rattle.etp_items.proofs.rules.writing.append_rules.Goals.{in-Some+in_ok-append_rule, in_default}
use Rattle.etp_items.proofs.rules.writing.append_rules.Goals as goal

pub loop-at-preserved : goal.loop-at-preserved
loop-at-preserved c = elim c.match-get.branch [
  | in-Some+in_ok-append_rule w ↦ w.text-is ∙ more_rules c.args.rules.now c.loop-at.at w.in-Some.rule.now c.args.text.now c.loop-at.text w.append_rule.new.text w.in-Some.ensures c.loop-at.invariant w.in_ok-append_rule.ensures
  | in_default w ↦ absurd (not_past c.args.rules.now c.loop-at.at (omega (arith, c.loop-at-test.true, c.len-at-end.ensures)) w.in_default.ensures)
]

pub returns : goal.returns
returns c = all_rules c.args.rules.now c.loop-at.at c.args.text.now c.loop-at.text (omega (arith, c.loop-at-test.false, c.len-at-end.ensures)) c.loop-at.invariant
