use Rattle.etp_io.proofs.LineLemmas.{NoNewline-more}
use Rattle.etp_io.proofs.lines.find_newline.Goals as goal

pub loop-place-preserved : goal.loop-place-preserved
loop-place-preserved c = NoNewline-more _ _ c.loop-place-test.true c.loop-place.invariant c.if-byte-eq-NEWLINE.false
