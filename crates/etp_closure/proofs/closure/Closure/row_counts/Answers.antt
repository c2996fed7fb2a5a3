use Rattle.std.proofs.Common.{◌≡◌, ◌∙◌, ◌+◌, ap, sym, subst, arith, Some, List, ℕ, length, not, ◌&&◌}
use Rattle.etp_bits.specs.Counts.{count_below}
use Rattle.etp_bits.specs.Bits.{bit}
use Rattle.etp_theory.specs.LawNumbers.{IsLaw}
use Rattle.etp_closure.specs.Closures.{Known, slot_of, is_reached, is_covered}
use Rattle.etp_closure.proofs.RowLemmas.{row_reached, row_refuted, lone_reached, lone_refuted}
use Rattle.etp_closure.proofs.closure.Closure.row_counts.Goals as goal

some_at : (c : goal.In-Some) → slot_of c.self.inside.slots.items c.args.e ≡ Some c.in-Some.slot
some_at c = ap (λ (ss : List ℕ). slot_of ss c.args.e) (sym c.deref.ensures.value) ∙ sym c.slot_at.ensures ∙ c.in-Some.is

pub count_row-requires : goal.count_row-requires
count_row-requires c =
    omega (arith, (c.self.invariant.paired.law_slot c.args.e c.in-Some.slot (some_at c)).0, c.self.invariant.reached_size.rows_are)

pub count_without-requires-clause-row_in : goal.count_without-requires-clause-row_in
count_without-requires-clause-row_in c =
    omega (arith, (c.self.invariant.paired.law_slot c.args.e c.in-Some.slot (ap (λ (ss : List ℕ). slot_of ss c.args.e) (sym c.deref.ensures.value) ∙ sym c.slot_at.ensures ∙ c.in-Some.is)).0, c.self.invariant.covered_size.rows_are)

pub count_without-requires-clause-other_row_in : goal.count_without-requires-clause-other_row_in
count_without-requires-clause-other_row_in c =
    omega (arith, (c.self.invariant.paired.law_slot c.args.e c.in-Some.slot (ap (λ (ss : List ℕ). slot_of ss c.args.e) (sym c.deref.ensures.value) ∙ sym c.slot_at.ensures ∙ c.in-Some.is)).0, c.self.invariant.reached_size.rows_are)

pub returns-in-None-clause-implied : goal.returns-in-None-clause-implied
returns-in-None-clause-implied c =
    let m = c.self.inside in
    let none = ap (λ (ss : List ℕ). slot_of ss c.args.e) (sym c.deref.ensures.value) ∙ sym c.slot_at.ensures ∙ c.in-None.is in
    let size = c.self.invariant.same_size ∙ ap (λ (k : Known). length k.duals) c.self.view_is in
    let is = subst (λ n. IsLaw n c.args.e) (sym size) c.requires in
    sym (subst (λ n. count_below (λ place. is_reached c.args.self.now c.args.e (place + 1)) n ≡ 1) size
    (subst (λ (k : Known). count_below (λ place. is_reached k c.args.e (place + 1)) (length m.slots.items) ≡ 1) c.self.view_is
    (lone_reached m.duals.items m.slots.items m.reached m.covered c.args.e none is)))

pub returns-in-None-clause-refuted : goal.returns-in-None-clause-refuted
returns-in-None-clause-refuted c =
    let m = c.self.inside in
    let none = ap (λ (ss : List ℕ). slot_of ss c.args.e) (sym c.deref.ensures.value) ∙ sym c.slot_at.ensures ∙ c.in-None.is in
    let size = c.self.invariant.same_size ∙ ap (λ (k : Known). length k.duals) c.self.view_is in
    sym (subst (λ n. count_below (λ place. is_covered c.args.self.now c.args.e (place + 1) && not (is_reached c.args.self.now c.args.e (place + 1))) n ≡ 0) size
    (subst (λ (k : Known). count_below (λ place. is_covered k c.args.e (place + 1) && not (is_reached k c.args.e (place + 1))) (length m.slots.items) ≡ 0) c.self.view_is
    (lone_refuted m.duals.items m.slots.items m.reached m.covered c.args.e none)))

pub returns-in-Some-clause-implied : goal.returns-in-Some-clause-implied
returns-in-Some-clause-implied c =
    let m = c.self.inside in
    let some : slot_of m.slots.items c.args.e ≡ Some c.in-Some.slot = (ap (λ (ss : List ℕ). slot_of ss c.args.e) (sym c.deref.ensures.value) ∙ sym c.slot_at.ensures ∙ c.in-Some.is) in
    let size = c.self.invariant.same_size ∙ ap (λ (k : Known). length k.duals) c.self.view_is in
    c.count_row.ensures
    ∙ ap (λ n. count_below (bit m.reached c.in-Some.slot) n) c.self.invariant.reached_size.columns_are
    ∙ row_reached m.duals.items m.slots.items m.laws.items m.reached m.covered c.args.e c.in-Some.slot c.self.invariant.paired some
    ∙ ap (λ (k : Known). count_below (λ place. is_reached k c.args.e (place + 1)) (length m.slots.items)) c.self.view_is
    ∙ ap (λ n. count_below (λ place. is_reached c.args.self.now c.args.e (place + 1)) n) size

pub returns-in-Some-clause-refuted : goal.returns-in-Some-clause-refuted
returns-in-Some-clause-refuted c =
    let m = c.self.inside in
    let some : slot_of m.slots.items c.args.e ≡ Some c.in-Some.slot = (ap (λ (ss : List ℕ). slot_of ss c.args.e) (sym c.deref.ensures.value) ∙ sym c.slot_at.ensures ∙ c.in-Some.is) in
    let size = c.self.invariant.same_size ∙ ap (λ (k : Known). length k.duals) c.self.view_is in
    c.count_without.ensures
    ∙ ap (λ n. count_below (λ column. bit m.covered c.in-Some.slot column && not (bit m.reached c.in-Some.slot column)) n) c.self.invariant.covered_size.columns_are
    ∙ row_refuted m.duals.items m.slots.items m.laws.items m.reached m.covered c.args.e c.in-Some.slot c.self.invariant.paired some
    ∙ ap (λ (k : Known). count_below (λ place. is_covered k c.args.e (place + 1) && not (is_reached k c.args.e (place + 1))) (length m.slots.items)) c.self.view_is
    ∙ ap (λ n. count_below (λ place. is_covered c.args.self.now c.args.e (place + 1) && not (is_reached c.args.self.now c.args.e (place + 1))) n) size
