use Rattle.std.proofs.Common.{true, subst, ◌∙◌}
use Rattle.etp_io.specs.Texts.{lines_of}
use Rattle.etp_items.specs.Bodies.{body_of}
use Rattle.etp_items.specs.Reading.{IsReadBody}
use Rattle.etp_demo.proofs.FilledLedgers.{not_refused}
use Rattle.etp_demo.proofs.reading.read_body.Goals as goal

pub unreachable-requires : goal.unreachable-requires
unreachable-requires c =
    not_refused c.args.count _ (lines_of c.args.text.now) c.in-Err.field-0 c.requires (c.in_ok-push_lines.ensures.count ∙ c.in_ok-reader.ensures.count)
    (c.in-Err.ensures.err (lines_of c.args.text.now) (c.in_ok-push_lines.ensures.read c.in_ok-reader.ensures.read))

pub returns : goal.returns
returns c =
    subst (λ n. IsReadBody n (lines_of c.args.text.now) true (body_of c.in-Ok.body)) (c.in_ok-push_lines.ensures.count ∙ c.in_ok-reader.ensures.count)
    (c.in-Ok.ensures.ok (lines_of c.args.text.now) (c.in_ok-push_lines.ensures.read c.in_ok-reader.ensures.read))
