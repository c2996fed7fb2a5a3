use Rattle.std.proofs.Common.{◌/◌, ◌&&◌, nat_lt, length}
use Rattle.etp_bits.specs.Words.{lit, JoinsBits}
use Rattle.etp_bits.proofs.words.join_rows.Given as goal

abbrev pub invariant-loop-group : goal.invariant-loop-group
invariant-loop-group l =
    JoinsBits l.initial.words l.words l.stride (λ r c. (nat_lt (r / 64) l.group && lit l.marks 0 r) && (nat_lt (c / 64) (length l.line) && lit l.line 0 c))
