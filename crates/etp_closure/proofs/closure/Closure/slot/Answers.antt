use Rattle.std.proofs.Common.{◌<◌, ◌∙◌, ap, sym, subst, ℕ, List, IfSome}
use Rattle.etp_closure.specs.Closures.{Known, slot_of}
use Rattle.etp_closure.proofs.Truths.{slot_own, slot_sized}
use Rattle.etp_closure.proofs.closure.Closure.slot.Goals as goal

pub returns-clause-own : goal.returns-clause-own
returns-clause-own c = λ other some at.
    let m = c.self.inside in
    let slots = ap (λ (k : Known). k.slots) c.self.view_is in
    let mine = c.slot_at.ensures ∙ ap (λ (ss : List ℕ). slot_of ss c.args.law) c.deref.ensures.value in
    slot_own m.slots.items m.laws.items other c.args.law c.slot_at.result c.self.invariant.paired some (ap (λ (ss : List ℕ). slot_of ss other) slots ∙ at) (sym mine)

pub returns-clause-in_reached : goal.returns-clause-in_reached
returns-clause-in_reached c =
    let m = c.self.inside in
    let mine = c.slot_at.ensures ∙ ap (λ (ss : List ℕ). slot_of ss c.args.law) c.deref.ensures.value in
    subst (λ (k : Known). IfSome c.slot_at.result (λ slot. (slot < k.reached.rows) × (slot < k.reached.columns))) c.self.view_is
    (slot_sized m.slots.items m.laws.items m.reached c.args.law c.slot_at.result c.self.invariant.paired c.self.invariant.reached_size mine)

pub returns-clause-in_covered : goal.returns-clause-in_covered
returns-clause-in_covered c =
    let m = c.self.inside in
    let mine = c.slot_at.ensures ∙ ap (λ (ss : List ℕ). slot_of ss c.args.law) c.deref.ensures.value in
    subst (λ (k : Known). IfSome c.slot_at.result (λ slot. (slot < k.covered.rows) × (slot < k.covered.columns))) c.self.view_is
    (slot_sized m.slots.items m.laws.items m.covered c.args.law c.slot_at.result c.self.invariant.paired c.self.invariant.covered_size mine)
