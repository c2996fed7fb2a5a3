use Rattle.std.proofs.Common.{◌≡◌, ◌∙◌, ◌^◌, false, ap, sym, arith, rules, replicate, length}
use Rattle.etp_closure.proofs.Truths.{new_closure, new_stands, no_slots, inverse_short}
use Rattle.etp_closure.proofs.closure.Closure.start.Goals as goal

zeros : (c : goal.In_ok-start-4) → c.in_ok-slots.slots.items ≡ replicate (length c.args.duals.now) 0
zeros c = c.in_ok-slots.ensures.items_if_clones_equal (search rules)

pub invariant_of-result : goal.invariant_of-result
invariant_of-result c =
    let duals = c.in_ok-from_slice.ensures.items in
    let short = inverse_short c.args.duals.now (2 ^ 32) c.requires (omega arith) (λ i. omega (arith, c.type_inv.duals i)) in
    let r = c.in_ok-start.ensures in
    let v = c.in_ok-start-2.ensures in
    let m = c.in_ok-start-3.ensures in
    let t = c.in_ok-start-4.ensures in
    rw duals
    (new_closure c.args.duals.now c.in_ok-slots.slots.items c.new.result.items c.in_ok-start.field-0 c.in_ok-start-2.field-0 c.in_ok-start-3.field-0 c.in_ok-start-4.field-0 false
    c.requires (omega (arith, c.in_ok-slots.ensures.len, c.in_ok-slots.slots.ok.0)) short c.new.ensures.items (zeros c)
    r.rows_are r.columns_are r.all_off v.rows_are v.columns_are v.all_off m.rows_are m.columns_are t.rows_are t.columns_are t.all_off)

pub returns-clause-none_kept : goal.returns-clause-none_kept
returns-clause-none_kept c = no_slots c.in_ok-slots.slots.items (length c.args.duals.now) (zeros c)

pub returns-clause-stands : goal.returns-clause-stands
returns-clause-stands c =
    let same = ap length c.in_ok-from_slice.ensures.items in
    new_stands c.in_ok-from_slice.field-0.items c.in_ok-slots.slots.items c.in_ok-start.field-0 c.in_ok-start-2.field-0 (zeros c ∙ ap (λ n. replicate n 0) (sym same))
