use Rattle.etp_lines.proofs.DividedLemmas.{no_left, no_right}
use Rattle.etp_lines.proofs.rules.rule_line.Goals as goal

pub returns-in_default-2 : goal.returns-in_default-2
returns-in_default-2 c =
    no_left c.args.line.now c.in-Some-divided.left.now c.in-Some-divided.right.now (rw c.in-Some.ensures.rest at c.in-Some-divided.ensures.parts) (rw c.in_default-2.is at c.in_ok-left.ensures)

pub returns-in_default-3 : goal.returns-in_default-3
returns-in_default-3 c =
    no_right c.args.line.now c.in-Some-divided.left.now c.in-Some-divided.right.now (rw c.in-Some.ensures.rest at c.in-Some-divided.ensures.parts) (rw c.in_default-3.is at c.in_ok-right.ensures)
