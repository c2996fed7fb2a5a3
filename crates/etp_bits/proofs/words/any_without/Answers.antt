use Rattle.std.proofs.Common.{arith, ◌+◌, ◌<◌, ◌^◌, slice_index}
use Rattle.etp_bits.proofs.Lines.{lacking_none, lacking_more, lacking_found, lacking_lit}
use Rattle.etp_bits.proofs.words.any_without.Goals as goal

pub loop-place-init : goal.loop-place-init
loop-place-init c = lacking_none c.args.words.now c.args.other.now c.args.at c.args.from

pub loop-place-preserved : goal.loop-place-preserved
loop-place-preserved c =
    let at = c.args.at + c.loop-place.place in
    let from = c.args.from + c.loop-place.place in
    let small : slice_index c.args.words.now at < 2 ^ 64 = omega (arith, c.type_inv.words at) in
    let other_small : slice_index c.args.other.now from < 2 ^ 64 = omega (arith, c.type_inv.other from) in
    lacking_more c.args.words.now c.args.other.now c.args.at c.args.from c.loop-place.place c.loop-place.rest small other_small c.loop-place.invariant

pub returns-clause-found : goal.returns-clause-found
returns-clause-found c =
    lacking_found c.args.words.now c.args.other.now c.args.at c.args.from c.args.count c.loop-place.place c.loop-place.rest (omega (arith, c.loop-place-test.false, c.loop-place.auto.place-end)) c.loop-place.invariant

pub returns-clause-none : goal.returns-clause-none
returns-clause-none c =
    lacking_lit c.args.words.now c.args.other.now c.args.at c.args.from c.args.count c.loop-place.place c.loop-place.rest (omega (arith, c.loop-place-test.false, c.loop-place.auto.place-end))
    (λ i. omega (arith, c.type_inv.other i)) c.loop-place.invariant
