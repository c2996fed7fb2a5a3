use Rattle.std.proofs.Common.{take}
use Rattle.etp_io.specs.Texts.{NoNewline}
use Rattle.etp_demo.proofs.reading.find_newline.Given as goal

abbrev pub invariant-loop-place : goal.invariant-loop-place
invariant-loop-place l = NoNewline (take l.place l.bytes)
