use Rattle.std.proofs.Common.{◌∙◌}
use Rattle.etp_demo.proofs.Cutting.{one_pushed, all_pushed, nothing_left}
use Rattle.etp_demo.proofs.reading.push_lines.Goals as goal

pub loop-rest-preserved : goal.loop-rest-preserved
loop-rest-preserved c = (
  one_pushed c.args.reader.now c.loop-rest.reader c.push.new.self c.args.text.now c.loop-rest.rest.now c.cut_line.result.1.now c.cut_line.result.0.now c.given_line.result
      c.loop-rest.invariant.0 c.cut_line.ensures.lines c.given_line.ensures.text c.in_ok-push.ensures.ok,
  c.in_ok-push.ensures.count ∙ c.loop-rest.invariant.1,
)

pub returns-clause-read : goal.returns-clause-read
returns-clause-read c =
    all_pushed c.args.reader.now c.loop-rest.reader c.args.text.now c.loop-rest.rest.now c.loop-rest.invariant.0
    (nothing_left c.loop-rest.rest.now c.is_empty.result c.is_empty.ensures c.loop-rest-test.false)
