use Rattle.std.proofs.Common.{◌≡◌, ◌++◌, length}
use Rattle.etp_items.specs.Written.{written_by, written_numbers, cut}
use Rattle.etp_items.proofs.numbers.append_pieces.Given as goal

abbrev pub invariant-loop-rest : goal.invariant-loop-rest
invariant-loop-rest l = l.text ++ written_by (written_numbers l.word) (cut l.size l.rest) ≡ l.initial.text ++ written_by (written_numbers l.word) (cut l.size l.initial.rest)

abbrev pub decreases-loop-rest : goal.decreases-loop-rest
decreases-loop-rest l = length l.rest
