use Rattle.etp_bits.proofs.Lines.{Lacking}
use Rattle.etp_bits.proofs.words.any_without.Given as goal

abbrev pub invariant-loop-place : goal.invariant-loop-place
invariant-loop-place l = Lacking l.words l.other l.at l.from l.place l.rest
