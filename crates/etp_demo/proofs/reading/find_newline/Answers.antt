use Rattle.etp_io.proofs.LineLemmas.{NoNewline-more, first_newline}
use Rattle.etp_demo.proofs.reading.find_newline.Goals as goal

pub returns-then-byte-eq-NEWLINE : goal.returns-then-byte-eq-NEWLINE
returns-then-byte-eq-NEWLINE c = first_newline _ _ c.loop-place-test.true c.loop-place.invariant c.if-byte-eq-NEWLINE.true

pub loop-place-preserved : goal.loop-place-preserved
loop-place-preserved c = NoNewline-more _ _ c.loop-place-test.true c.loop-place.invariant c.if-byte-eq-NEWLINE.false
