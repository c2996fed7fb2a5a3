use Rattle.std.proofs.Common.{arith, ◌+◌}
use Rattle.etp_bits.proofs.Lines.{joins_more, joins_unread}
use Rattle.etp_bits.proofs.words.join_within.Goals as goal

pub loop-place-preserved : goal.loop-place-preserved
loop-place-preserved c =
    let place = c.loop-place.place in
    let read = joins_unread c.args.words.now c.loop-place.words c.args.into c.args.from place place c.loop-place.invariant (λ written h. c.requires.unread place written h c.loop-place-test.true) in
    let here = c.loop-place.invariant.after (c.args.into + place) (omega arith) in
    joins_more c.args.words.now c.loop-place.words c.args.words.now c.args.into c.args.from place _ c.loop-place.invariant (omega arith) (cc (here, read))
