use Rattle.std.proofs.Common.{◌≡◌, ◌*◌, not, ◌&&◌}
use Rattle.etp_bits.specs.Counts.{count_below}
use Rattle.etp_bits.specs.Words.{lit}
use Rattle.etp_bits.proofs.words.count_without.Given as goal

abbrev pub invariant-loop-place : goal.invariant-loop-place
invariant-loop-place l =
    l.total ≡ count_below (λ column. lit l.words l.at column && not (lit l.other l.from column)) (64 * l.place)
