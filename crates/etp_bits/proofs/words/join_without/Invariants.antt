use Rattle.std.proofs.Common.{◌/◌, ◌&&◌, not, nat_lt, nat_eq}
use Rattle.etp_bits.specs.Words.{lit, JoinsBits}
use Rattle.etp_bits.proofs.words.join_without.Given as goal

abbrev pub invariant-loop-place : goal.invariant-loop-place
invariant-loop-place l =
    JoinsBits l.initial.words l.words l.stride (λ r c. nat_eq r l.into && (nat_lt (c / 64) l.place && (lit l.other l.from c && not (lit l.other l.without c))))
