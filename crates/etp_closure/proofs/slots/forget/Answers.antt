use Rattle.std.proofs.Common.{◌≡◌, ◌<◌, length, get_or, subst, arith}
use Rattle.std.proofs.lemmas.List.{get_or_read}
use Rattle.etp_closure.proofs.SlotLemmas.{Forgets, forgets_one, forgotten, one_to_one-take, slot_in}
use Rattle.etp_closure.proofs.slots.forget.Goals as goal

pub bounds-slots-index : goal.bounds-slots-index
bounds-slots-index c =
    let laws = c.args.laws.now in
    let place = c.loop-place.place in
    let inside : place < length laws.items = omega (arith, c.len-place-end.ensures, c.loop-place-test.true, laws.ok.0) in
    let read = get_or_read laws.items place c.index.result.now inside c.index.ensures 0 in
    let is = slot_in c.args.slots.now (get_or laws.items place 0) place (c.requires.paired.slot_law place inside) in
    omega (arith, read, is.to_last, is.from_one, c.loop-place.invariant.size)

pub loop-place-preserved : goal.loop-place-preserved
loop-place-preserved c =
    let laws = c.args.laws.now in
    let place = c.loop-place.place in
    let inside : place < length laws.items = omega (arith, c.len-place-end.ensures, c.loop-place-test.true, laws.ok.0) in
    let read = get_or_read laws.items place c.index.result.now inside c.index.ensures 0 in
    rw read (forgets_one c.args.slots.now c.loop-place.slots laws.items c.args.count place c.requires.paired c.loop-place.invariant (omega (arith, c.requires.within, c.len-place-end.ensures)) inside)

pub returns-clause-paired : goal.returns-clause-paired
returns-clause-paired c =
    let laws = c.args.laws.now in
    let all : c.loop-place.place ≡ length laws.items = omega (arith, c.len-place-end.ensures, c.loop-place-test.false, laws.ok.0, c.requires.within) in
    let done = subst (Forgets c.args.slots.now c.loop-place.slots c.args.count) all c.loop-place.invariant in
    rw c.truncate.ensures.items (one_to_one-take c.args.slots.now c.loop-place.slots laws.items c.args.count c.requires.paired done (omega (arith, c.requires.within, laws.ok.0)))

pub returns-clause-slots : goal.returns-clause-slots
returns-clause-slots c =
    let laws = c.args.laws.now in
    let all : c.loop-place.place ≡ length laws.items = omega (arith, c.len-place-end.ensures, c.loop-place-test.false, laws.ok.0, c.requires.within) in
    let done = subst (Forgets c.args.slots.now c.loop-place.slots c.args.count) all c.loop-place.invariant in
    forgotten c.args.slots.now c.loop-place.slots laws.items c.args.count c.requires.paired done (omega (arith, c.requires.within, laws.ok.0))
