use Rattle.std.proofs.Common.{◌/◌, ◌&&◌, nat_lt, length}
use Rattle.etp_bits.specs.Words.{lit, JoinsBits}
use Rattle.etp_bits.proofs.words.join_some.Given as goal

abbrev pub invariant-loop-place : goal.invariant-loop-place
invariant-loop-place l =
    JoinsBits l.initial.words l.words l.stride (λ r c. (nat_lt (r / 64) (length l.marks) && lit l.marks 0 r) && (nat_lt (c / 64) l.place && lit l.line 0 c))
