use Rattle.std.proofs.Common.{◌≡◌, ◌*◌}
use Rattle.etp_bits.specs.Counts.{count_below}
use Rattle.etp_bits.specs.Words.{lit}
use Rattle.etp_bits.proofs.words.count_on.Given as goal

abbrev pub invariant-loop-place : goal.invariant-loop-place
invariant-loop-place l = l.total ≡ count_below (lit l.words l.at) (64 * l.place)
