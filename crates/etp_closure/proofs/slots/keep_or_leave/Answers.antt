use Rattle.std.proofs.Common.{◌≡◌, ◌≤◌, ◌∙◌, ap, arith, length, OnErr, Ok, Err}
use Rattle.std.proofs.lemmas.List.{length-take-le}
use Rattle.etp_closure.proofs.Truths.{slots_back, extends_same}
use Rattle.etp_closure.proofs.slots.keep_or_leave.Goals as goal

back : (c : goal.After-slice_known-then-is_err-1) → c.forget.new.slots ≡ c.args.slots.now
back c =
    slots_back c.args.slots.now c.args.laws.now.items c.keep_both-kept.new.slots c.keep_both-kept.new.laws.items c.forget.new.slots c.len-before.result
    c.requires.paired c.keep_both-kept.ensures.extends (omega (arith, c.len-before.ensures, c.args.laws.now.ok.0)) c.forget.ensures.size c.forget.ensures.slots

pub returns-then-is_err-clause-extends : goal.returns-then-is_err-clause-extends
returns-then-is_err-clause-extends c =
    let fits : c.len-before.result ≤ length c.keep_both-kept.new.laws.items = omega (arith, c.len-before.ensures, c.args.laws.now.ok.0, c.keep_both-kept.ensures.extends.more) in
    let size = ap length c.forget.ensures.laws ∙ length-take-le c.len-before.result c.keep_both-kept.new.laws.items fits in
    extends_same c.args.slots.now c.args.laws.now.items c.forget.new.slots c.forget.new.laws.items (back c) (omega (arith, size, c.len-before.ensures, c.args.laws.now.ok.0))

pub returns-then-is_err-clause-err : goal.returns-then-is_err-clause-err
returns-then-is_err-clause-err c =
    let same = back c in
    elim c.keep_both-kept.result as (λ r. OnErr r (c.forget.new.slots ≡ c.args.slots.now)) [ Ok v ↦ tt | Err e ↦ same ]
