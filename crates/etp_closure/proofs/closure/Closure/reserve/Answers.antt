use Rattle.std.proofs.Common.{◌≡◌, ◌<◌, ◌∙◌, ◌↔◌, ap, sym, subst, arith, length, List, ℕ, All, Some, ◌≤◌, is_ok, true, false, not}
use Rattle.std.specs.Vec.{with_items}
use Rattle.std.proofs.lemmas.List.{with_items_is, length-take-le}
use Rattle.etp_bits.specs.Bits.{Bits, SameSizes}
use Rattle.etp_theory.specs.Reach.{Fact}
use Rattle.etp_theory.specs.LawNumbers.{IsLaw}
use Rattle.etp_closure.specs.Closures.{Known, IsKept, IsReserved, KeepsSlots, SameAnswers, StandsFor, slot_of}
use Rattle.etp_closure.specs.Tables.{IsClosure, IsSquare, Extends}
use Rattle.etp_closure.proofs.Truths.{Reserved, reserve_ok, reserve_err, slots_back}
use Rattle.etp_closure.proofs.closure.Closure.reserve.Goals as goal

-- ---- kept

kept : (c : goal.After-reach_themselves-2) → Reserved c.self.inside.duals.items c.self.inside.slots.items c.self.inside.reached c.self.inside.covered c.keep_or_leave.new.slots c.keep_or_leave.new.laws.items c.reach_themselves.new.reached c.grow_all.new.covered c.grow_all.new.marks c.reach_themselves-2.new.reached c.self.inside.has_covered
kept c =
    let m = c.self.inside in
    let e = c.in_ok-keep_or_leave.ensures in
    let g = c.grow_all.ensures in
    let duals = ap (λ (k : Known). length k.duals) c.self.view_is in
    let first = subst (λ n. All (IsLaw n) c.args.first.now) (sym duals) c.requires.first_in in
    let second = subst (λ n. All (IsLaw n) c.args.second.now) (sym duals) c.requires.second_in in
    let before : c.len-before.result ≡ length m.laws.items = omega (arith, c.len-before.ensures, m.laws.ok.0) in
    let count : c.len-count.result ≡ length c.keep_or_leave.new.laws.items = omega (arith, c.len-count.ensures, c.keep_or_leave.new.laws.ok.0) in
    let ok : is_ok c.grow_all.result ≡ true = c.is_err.ensures.negation ∙ ap not c.if-is_err.false in
    let extends = subst (λ (ss : List ℕ). Extends ss m.laws.items c.keep_or_leave.new.slots c.keep_or_leave.new.laws.items) c.deref_mut.ensures.value e.extends in
    let among = rw (c.deref_mut.ensures.value, c.deref.ensures.value) at e.kept in
    reserve_ok m.duals.items m.slots.items m.laws.items m.reached m.covered m.marks m.reaching m.has_covered c.args.first.now c.args.second.now c.keep_or_leave.new.slots c.keep_or_leave.new.laws.items
    c.grow_all.new.reached c.grow_all.new.covered c.grow_all.new.marks c.reach_themselves.new.reached c.grow_all.new.reaching c.reach_themselves-2.new.reached c.len-before.result c.len-count.result
    c.self.invariant first second before count (omega (arith, e.few, c.keep_or_leave.new.laws.ok.0)) e.paired extends among
    (rw ok at g.reached_size) (rw ok at g.covered_size) (rw ok at g.marks_size) g.reached g.covered c.reach_themselves.ensures.sizes c.reach_themselves.ensures.bits
    (rw ok at g.reaching_size) g.reaching c.reach_themselves-2.ensures.sizes c.reach_themselves-2.ensures.bits

written : (c : goal.After-reach_themselves-2) → (with_items c.self.inside.slots c.keep_or_leave.new.slots).items ≡ c.keep_or_leave.new.slots
written c = with_items_is c.self.inside.slots c.keep_or_leave.new.slots (omega (arith, c.keep_or_leave.auto.slots, c.deref_mut.ensures.len))

pub invariant_of-self-2 : goal.invariant_of-self-2
invariant_of-self-2 c =
    let m = c.self.inside in
    subst (λ (ss : List ℕ). IsClosure m.duals.items ss c.keep_or_leave.new.laws.items c.reach_themselves.new.reached c.grow_all.new.covered c.grow_all.new.marks c.reach_themselves-2.new.reached m.has_covered) (sym (written c)) (kept c).is

pub returns-clause-kept : goal.returns-clause-kept
returns-clause-kept c =
    let m = c.self.inside in
    let among = rw (c.deref_mut.ensures.value, c.deref.ensures.value) at c.in_ok-keep_or_leave.ensures.kept in
    subst (λ (k : Known). (law : ℕ) → IsKept (with_items c.self.inside.slots c.keep_or_leave.new.slots).items law ↔ IsReserved k.duals k.slots c.args.first.now c.args.second.now law) c.self.view_is
    (subst (λ (ss : List ℕ). (law : ℕ) → IsKept ss law ↔ IsReserved m.duals.items m.slots.items c.args.first.now c.args.second.now law) (sym (written c)) among)

pub returns-clause-slots : goal.returns-clause-slots
returns-clause-slots c =
    subst (λ (k : Known). KeepsSlots k.slots (with_items c.self.inside.slots c.keep_or_leave.new.slots).items) c.self.view_is
    (subst (λ (ss : List ℕ). KeepsSlots c.self.inside.slots.items ss) (sym (written c)) (kept c).keeps)

pub returns-clause-answers : goal.returns-clause-answers
returns-clause-answers c =
    let m = c.self.inside in
    subst (λ (k : Known). SameAnswers k (record { duals = m.duals.items; slots = (with_items c.self.inside.slots c.keep_or_leave.new.slots).items; reached = c.reach_themselves.new.reached; covered = c.grow_all.new.covered })) c.self.view_is
    (subst (λ (ss : List ℕ). SameAnswers (record { duals = m.duals.items; slots = m.slots.items; reached = m.reached; covered = m.covered }) (record { duals = m.duals.items; slots = ss; reached = c.reach_themselves.new.reached; covered = c.grow_all.new.covered })) (sym (written c)) (kept c).answers)

pub returns-clause-stands : goal.returns-clause-stands
returns-clause-stands c =
    let m = c.self.inside in
    subst (λ (k : Known). (facts : List Fact) → StandsFor k facts → StandsFor (record { duals = m.duals.items; slots = (with_items c.self.inside.slots c.keep_or_leave.new.slots).items; reached = c.reach_themselves.new.reached; covered = c.grow_all.new.covered }) facts) c.self.view_is
    (subst (λ (ss : List ℕ). (facts : List Fact) → StandsFor (record { duals = m.duals.items; slots = m.slots.items; reached = m.reached; covered = m.covered }) facts → StandsFor (record { duals = m.duals.items; slots = ss; reached = c.reach_themselves.new.reached; covered = c.grow_all.new.covered }) facts) (sym (written c)) (kept c).stands)

-- ---- given back

given : (c : goal.After-self-then-is_err-1) → c.forget.new.slots ≡ c.self.inside.slots.items
given c =
    let m = c.self.inside in
    let e = c.in_ok-keep_or_leave.ensures in
    let before : c.len-before.result ≡ length m.laws.items = omega (arith, c.len-before.ensures, m.laws.ok.0) in
    let extends = subst (λ (ss : List ℕ). Extends ss m.laws.items c.keep_or_leave.new.slots c.keep_or_leave.new.laws.items) c.deref_mut.ensures.value e.extends in
    let first = with_items_is m.slots c.keep_or_leave.new.slots (omega (arith, c.keep_or_leave.auto.slots, c.deref_mut.ensures.len)) in
    let now : c.deref_mut-then-is_err.result.now ≡ c.keep_or_leave.new.slots = c.deref_mut-then-is_err.ensures.value ∙ first in
    let size = c.forget.ensures.size ∙ ap length now in
    let slots = subst (λ (ss : List ℕ). (law slot : ℕ) → (slot_of c.forget.new.slots law ≡ Some slot) ↔ ((slot_of ss law ≡ Some slot) × (slot < c.len-before.result))) now c.forget.ensures.slots in
    slots_back m.slots.items m.laws.items c.keep_or_leave.new.slots c.keep_or_leave.new.laws.items c.forget.new.slots c.len-before.result
    c.self.invariant.paired extends before size slots

back : (c : goal.After-self-then-is_err-1) → Reserved c.self.inside.duals.items c.self.inside.slots.items c.self.inside.reached c.self.inside.covered c.forget.new.slots c.forget.new.laws.items c.grow_all.new.reached c.grow_all.new.covered c.grow_all.new.marks c.grow_all.new.reaching c.self.inside.has_covered
back c =
    let m = c.self.inside in
    let e = c.in_ok-keep_or_leave.ensures in
    let g = c.grow_all.ensures in
    let before : c.len-before.result ≡ length m.laws.items = omega (arith, c.len-before.ensures, m.laws.ok.0) in
    let err : is_ok c.grow_all.result ≡ false = c.is_err.ensures.negation ∙ ap not c.if-is_err.true in
    let extends = subst (λ (ss : List ℕ). Extends ss m.laws.items c.keep_or_leave.new.slots c.keep_or_leave.new.laws.items) c.deref_mut.ensures.value e.extends in
    let same = given c in
    let fits : c.len-before.result ≤ length c.keep_or_leave.new.laws.items = omega (arith, before, extends.more) in
    let size = ap length c.forget.ensures.laws ∙ length-take-le c.len-before.result c.keep_or_leave.new.laws.items fits in
    reserve_err m.duals.items m.slots.items m.laws.items m.reached m.covered m.marks m.reaching m.has_covered c.forget.new.slots c.forget.new.laws.items c.grow_all.new.reached c.grow_all.new.covered c.grow_all.new.marks c.grow_all.new.reaching c.len-before.result
    c.self.invariant before same c.forget.ensures.paired size (rw err at g.reached_size) (rw err at g.covered_size) (rw err at g.marks_size) g.reached g.covered (rw err at g.reaching_size) g.reaching

written_back : (c : goal.After-self-then-is_err-1)
    → (with_items (with_items c.self.inside.slots c.keep_or_leave.new.slots) c.forget.new.slots).items ≡ c.forget.new.slots
written_back c =
    with_items_is (with_items c.self.inside.slots c.keep_or_leave.new.slots) c.forget.new.slots
    (omega (arith, ap length (given c), c.self.inside.slots.ok.0))

pub invariant_of-self-then-is_err : goal.invariant_of-self-then-is_err
invariant_of-self-then-is_err c =
    subst (λ (ss : List ℕ). IsClosure c.self.inside.duals.items ss c.forget.new.laws.items c.grow_all.new.reached c.grow_all.new.covered c.grow_all.new.marks c.grow_all.new.reaching c.self.inside.has_covered) (sym (written_back c)) (back c).is

pub returns-then-is_err-clause-slots : goal.returns-then-is_err-clause-slots
returns-then-is_err-clause-slots c =
    subst (λ (k : Known). KeepsSlots k.slots (with_items (with_items c.self.inside.slots c.keep_or_leave.new.slots) c.forget.new.slots).items) c.self.view_is
    (subst (λ (ss : List ℕ). KeepsSlots c.self.inside.slots.items ss) (sym (written_back c)) (back c).keeps)

pub returns-then-is_err-clause-answers : goal.returns-then-is_err-clause-answers
returns-then-is_err-clause-answers c =
    let m = c.self.inside in
    subst (λ (k : Known). SameAnswers k (record { duals = m.duals.items; slots = (with_items (with_items c.self.inside.slots c.keep_or_leave.new.slots) c.forget.new.slots).items; reached = c.grow_all.new.reached; covered = c.grow_all.new.covered })) c.self.view_is
    (subst (λ (ss : List ℕ). SameAnswers (record { duals = m.duals.items; slots = m.slots.items; reached = m.reached; covered = m.covered }) (record { duals = m.duals.items; slots = ss; reached = c.grow_all.new.reached; covered = c.grow_all.new.covered })) (sym (written_back c)) (back c).answers)

pub returns-then-is_err-clause-stands : goal.returns-then-is_err-clause-stands
returns-then-is_err-clause-stands c =
    let m = c.self.inside in
    subst (λ (k : Known). (facts : List Fact) → StandsFor k facts → StandsFor (record { duals = m.duals.items; slots = (with_items (with_items c.self.inside.slots c.keep_or_leave.new.slots) c.forget.new.slots).items; reached = c.grow_all.new.reached; covered = c.grow_all.new.covered }) facts) c.self.view_is
    (subst (λ (ss : List ℕ). (facts : List Fact) → StandsFor (record { duals = m.duals.items; slots = m.slots.items; reached = m.reached; covered = m.covered }) facts → StandsFor (record { duals = m.duals.items; slots = ss; reached = c.grow_all.new.reached; covered = c.grow_all.new.covered }) facts) (sym (written_back c)) (back c).stands)

pub returns-then-is_err-clause-err : goal.returns-then-is_err-clause-err
returns-then-is_err-clause-err c = written_back c ∙ given c ∙ ap (λ (k : Known). k.slots) c.self.view_is

-- both tables have a row and a column for each law again
same_sizes : (old new : Bits) (m n : ℕ) → n ≡ m → IsSquare old m → IsSquare new n → SameSizes old new
same_sizes old new m n e before after = record {
  rows_stay = after.rows_are ∙ e ∙ sym before.rows_are;
  columns_stay = after.columns_are ∙ e ∙ sym before.columns_are;
}

count_back : (c : goal.After-self-then-is_err-1) → c.len-before.result ≡ length c.self.inside.laws.items
count_back c = omega (arith, c.len-before.ensures, c.self.inside.laws.ok.0)

failed : (c : goal.After-self-then-is_err-1) → is_ok c.grow_all.result ≡ false
failed c = c.is_err.ensures.negation ∙ ap not c.if-is_err.true

pub returns-then-is_err-clause-err_reached : goal.returns-then-is_err-clause-err_reached
returns-then-is_err-clause-err_reached c =
    let err = failed c in
    subst (λ (k : Known). SameSizes k.reached c.grow_all.new.reached) c.self.view_is
    (same_sizes c.self.inside.reached c.grow_all.new.reached (length c.self.inside.laws.items) c.len-before.result (count_back c) c.self.invariant.reached_size (rw err at c.grow_all.ensures.reached_size))

pub returns-then-is_err-clause-err_covered : goal.returns-then-is_err-clause-err_covered
returns-then-is_err-clause-err_covered c =
    let err = failed c in
    subst (λ (k : Known). SameSizes k.covered c.grow_all.new.covered) c.self.view_is
    (same_sizes c.self.inside.covered c.grow_all.new.covered (length c.self.inside.laws.items) c.len-before.result (count_back c) c.self.invariant.covered_size (rw err at c.grow_all.ensures.covered_size))
