use Rattle.std.proofs.Common.{arith, ◌≡◌, ◌+◌, ◌<◌, ◌^◌, length, slice_index, bit_and}
use Rattle.std.specs.Int.{bit_not, w64}
use Rattle.etp_bits.proofs.Joins.{joins_word, without_step, without_none}
use Rattle.etp_bits.proofs.words.join_without.Goals as goal

pub loop-place-init : goal.loop-place-init
loop-place-init c = without_none c.args.words.now c.args.other.now c.args.stride c.args.into c.args.from c.args.without

pub loop-place-preserved : goal.loop-place-preserved
loop-place-preserved c =
    let place = c.loop-place.place in
    let other = c.args.other.now in
    let small : slice_index other (c.args.without + place) < 2 ^ 64 = omega (arith, c.type_inv.other (c.args.without + place)) in
    let word = bit_and (slice_index other (c.args.from + place)) (bit_not w64 (slice_index other (c.args.without + place))) in
    let size : length c.loop-place.words ≡ length c.args.words.now = c.loop-place.invariant.same_size in
    let narrow : place < c.args.stride = omega (arith, c.loop-place-test.true, c.requires.narrow) in
    without_step c.args.words.now c.loop-place.words _ other c.args.stride c.args.into c.args.from c.args.without place small c.loop-place.invariant
    (joins_word c.loop-place.words c.args.stride c.args.into place word narrow (omega (arith, size, c.requires.into_fits, narrow)))
