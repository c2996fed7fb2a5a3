use Rattle.std.proofs.Common.{ap, ◌∙◌, arith}
use Rattle.etp_io.specs.Texts.{whole}
use Rattle.etp_io.proofs.LineLemmas.{whole-return, whole-other}
use Rattle.etp_demo.proofs.Cutting.{same_text}
use Rattle.etp_demo.proofs.reading.given_line.Goals as goal

pub returns-then-last-eq-RETURN-clause-text : goal.returns-then-last-eq-RETURN-clause-text
returns-then-last-eq-RETURN-clause-text c =
    same_text _ _ (whole-return c.args.line.now c.in-Some.before.now c.in-Some.last.now c.in-Some.ensures.cases.0 (omega (arith, c.if-line-gt-LINE.false)) c.if-last-eq-RETURN.true)

pub returns-else-last-eq-RETURN-clause-text : goal.returns-else-last-eq-RETURN-clause-text
returns-else-last-eq-RETURN-clause-text c =
    ap whole c.in-Some.ensures.cases.0
    ∙ same_text _ _ (whole-other c.args.line.now c.in-Some.before.now c.in-Some.last.now c.in-Some.ensures.cases.0 (omega (arith, c.if-line-gt-LINE.false)) c.if-last-eq-RETURN.false)
