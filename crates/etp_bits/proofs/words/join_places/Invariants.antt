use Rattle.std.proofs.Common.{◌/◌, ◌%◌, ◌&&◌, nat_lt, nat_eq}
use Rattle.std.specs.Int.{bit_at}
use Rattle.etp_bits.specs.Words.{lit, JoinsBits}
use Rattle.etp_bits.proofs.words.join_places.Given as goal

abbrev pub invariant-loop-group : goal.invariant-loop-group
invariant-loop-group l =
    JoinsBits l.initial.words l.words l.stride (λ r c. (nat_lt (r / 64) l.group && lit l.marks 0 r) && (nat_eq (c / 64) l.place && nat_eq (bit_at l.word (c % 64)) 1))
