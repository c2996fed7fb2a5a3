use Rattle.std.proofs.Common.{◌/◌, ◌&&◌, nat_lt, length}
use Rattle.etp_bits.specs.Words.{lit, JoinsBits}
use Rattle.etp_bits.proofs.Joins.{taken, Within}
use Rattle.etp_bits.proofs.words.join_group.Given as goal

abbrev pub invariant-loop-left : goal.invariant-loop-left
invariant-loop-left l = record {
  within : Within l.left l.rows;
  joined : JoinsBits l.initial.words l.words l.stride (λ r c. taken l.rows l.left l.group r && (nat_lt (c / 64) (length l.line) && lit l.line 0 c));
}

abbrev pub decreases-loop-left : goal.decreases-loop-left
decreases-loop-left l = l.left
