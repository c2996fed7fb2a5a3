use Rattle.std.proofs.Common.{◌/◌, ◌%◌, ◌&&◌, nat_eq}
use Rattle.std.specs.Int.{bit_at}
use Rattle.etp_bits.specs.Words.{JoinsBits}
use Rattle.etp_bits.proofs.Joins.{taken, Within}
use Rattle.etp_bits.proofs.words.join_place.Given as goal

abbrev pub invariant-loop-left : goal.invariant-loop-left
invariant-loop-left l = record {
  within : Within l.left l.rows;
  joined : JoinsBits l.initial.words l.words l.stride (λ r c. taken l.rows l.left l.group r && (nat_eq (c / 64) l.place && nat_eq (bit_at l.word (c % 64)) 1));
}

abbrev pub decreases-loop-left : goal.decreases-loop-left
decreases-loop-left l = l.left
