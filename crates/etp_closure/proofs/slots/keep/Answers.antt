use Rattle.std.proofs.Common.{◌≡◌, ◌+◌, ◌-◌, ℕ, zero, suc, List, None, length, slice_index, ap, refl, arith}
use Rattle.etp_closure.specs.Closures.{slot_of, slot_from}
use Rattle.etp_closure.proofs.SlotLemmas.{one_to_one-push}
use Rattle.etp_closure.proofs.slots.keep.Goals as goal

free : (slots : List ℕ) (law : ℕ) → slice_index slots (law - 1) ≡ 0 → slot_of slots law ≡ None
free slots zero is = refl
free slots (suc place) is = let at : suc place - 1 ≡ place = omega arith in ap slot_from (rw at at is)

pub returns-in_ok-push-clause-paired : goal.returns-in_ok-push-clause-paired
returns-in_ok-push-clause-paired c =
    let pushed = one_to_one-push c.args.slots.now c.args.laws.now.items c.args.law c.requires.paired c.requires.law_in (free c.args.slots.now c.args.law c.if-slots-place-eq0.true) in
    let code : c.len-then-slots-place-eq0.result ≡ length c.args.laws.now.items + 1 = omega (arith, c.len-then-slots-place-eq0.ensures, c.in_ok-push.ensures.len, c.args.laws.now.ok.0) in
    rw (code, c.in_ok-push.ensures.items) pushed
