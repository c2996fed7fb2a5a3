use Rattle.std.proofs.Common.{arith, ◌*◌, ◌+◌, ◌<◌, ◌^◌, not, ◌&&◌, slice_index}
use Rattle.etp_bits.proofs.Counting.{count_below_le}
use Rattle.etp_bits.proofs.Lines.{lit-more_without}
use Rattle.etp_bits.specs.Words.{lit}
use Rattle.etp_bits.proofs.words.count_without.Goals as goal

pub overflow_add-total-in-loop-place-2 : goal.overflow_add-total-in-loop-place-2
overflow_add-total-in-loop-place-2 c =
    let here = c.args.at + c.loop-place.place in
    let there = c.args.from + c.loop-place.place in
    let small : slice_index c.args.words.now here < 2 ^ 64 = omega (arith, c.type_inv.words here) in
    let other_small : slice_index c.args.other.now there < 2 ^ 64 = omega (arith, c.type_inv.other there) in
    let more = lit-more_without c.args.words.now c.args.other.now c.args.at c.args.from c.loop-place.place small other_small in
    omega (arith, more, c.loop-place.invariant, count_below_le (λ column. lit c.args.words.now c.args.at column && not (lit c.args.other.now c.args.from column)) (64 * (c.loop-place.place + 1)))

pub loop-place-preserved : goal.loop-place-preserved
loop-place-preserved c =
    let here = c.args.at + c.loop-place.place in
    let there = c.args.from + c.loop-place.place in
    let small : slice_index c.args.words.now here < 2 ^ 64 = omega (arith, c.type_inv.words here) in
    let other_small : slice_index c.args.other.now there < 2 ^ 64 = omega (arith, c.type_inv.other there) in
    let more = lit-more_without c.args.words.now c.args.other.now c.args.at c.args.from c.loop-place.place small other_small in
    omega (arith, more, c.loop-place.invariant)
