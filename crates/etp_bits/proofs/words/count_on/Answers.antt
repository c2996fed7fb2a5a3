use Rattle.std.proofs.Common.{arith, ◌*◌, ◌+◌, ◌<◌, ◌^◌, slice_index}
use Rattle.etp_bits.proofs.Counting.{count_below_le}
use Rattle.etp_bits.proofs.Lines.{lit-more}
use Rattle.etp_bits.specs.Words.{lit}
use Rattle.etp_bits.proofs.words.count_on.Goals as goal

pub overflow_add-total-in-loop-place : goal.overflow_add-total-in-loop-place
overflow_add-total-in-loop-place c =
    let at = c.args.at + c.loop-place.place in
    let small : slice_index c.args.words.now at < 2 ^ 64 = omega (arith, c.type_inv.words at) in
    let more = lit-more c.args.words.now c.args.at c.loop-place.place small in
    omega (arith, more, c.loop-place.invariant, count_below_le (lit c.args.words.now c.args.at) (64 * (c.loop-place.place + 1)))

pub loop-place-preserved : goal.loop-place-preserved
loop-place-preserved c =
    let at = c.args.at + c.loop-place.place in
    let small : slice_index c.args.words.now at < 2 ^ 64 = omega (arith, c.type_inv.words at) in
    let more = lit-more c.args.words.now c.args.at c.loop-place.place small in
    omega (arith, more, c.loop-place.invariant)
