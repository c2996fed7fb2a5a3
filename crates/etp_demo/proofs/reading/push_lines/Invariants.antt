use Rattle.std.proofs.Common.{◌≡◌, length}
use Rattle.etp_demo.proofs.Cutting.{HasPushed}
use Rattle.etp_demo.proofs.reading.push_lines.Given as goal

abbrev pub invariant-loop-rest : goal.invariant-loop-rest
invariant-loop-rest l = HasPushed l.initial.reader l.reader l.text l.rest × (l.reader.tally.count ≡ l.initial.reader.tally.count)

abbrev pub decreases-loop-rest : goal.decreases-loop-rest
decreases-loop-rest l = length l.rest
