use Rattle.std.proofs.Common.{◌∙◌, ap, arith}
use Rattle.etp_closure.specs.Closures.{Known, is_reached}
use Rattle.etp_closure.proofs.Truths.{slot_within, reached_by}
use Rattle.etp_closure.proofs.closure.Closure.implied.Goals as goal

pub look_up-requires-clause-rows : goal.look_up-requires-clause-rows
look_up-requires-clause-rows c = λ law slot at.
    let m = c.self.inside in
    let inside = slot_within m.duals.items m.slots.items m.laws.items m.reached m.covered m.marks m.reaching m.has_covered c.self.invariant law slot (rw c.deref.ensures.value at at) in
    omega (arith, inside.0, c.self.invariant.reached_size.rows_are)

pub look_up-requires-clause-columns : goal.look_up-requires-clause-columns
look_up-requires-clause-columns c = λ law slot at.
    let m = c.self.inside in
    let inside = slot_within m.duals.items m.slots.items m.laws.items m.reached m.covered m.marks m.reaching m.has_covered c.self.invariant law slot (rw c.deref.ensures.value at at) in
    omega (arith, inside.0, c.self.invariant.reached_size.columns_are)

pub returns : goal.returns
returns c =
    let m = c.self.inside in
    (rw c.deref.ensures.value at c.look_up.ensures)
    ∙ reached_by m.duals.items m.slots.items m.reached m.covered c.args.e c.args.f
    ∙ ap (λ (k : Known). is_reached k c.args.e c.args.f) c.self.view_is
