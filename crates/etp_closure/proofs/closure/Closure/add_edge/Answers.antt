use Rattle.std.proofs.Common.{◌≡◌, ◌∙◌, sym, subst, arith, refl, true}
use Rattle.etp_bits.specs.Bits.{bit}
use Rattle.etp_closure.specs.Closures.{Known, is_reached, is_covered}
use Rattle.etp_closure.specs.Tables.{Links, already, IsSquare}
use Rattle.etp_closure.proofs.Truths.{links_anew, links_already}
use Rattle.etp_closure.proofs.Closing.{covered_linked, closed_linked, moved_none}
use Rattle.etp_closure.proofs.closure.Closure.add_edge.Goals as goal

pub get-requires-clause-row_in : goal.get-requires-clause-row_in
get-requires-clause-row_in c =
    let at = rw c.deref.ensures.value at c.kept_slot-row.ensures in
    omega (arith, (c.self.invariant.paired.law_slot c.args.from c.kept_slot-row.result at).0, c.self.invariant.reached_size.rows_are)

pub get-requires-clause-column_in : goal.get-requires-clause-column_in
get-requires-clause-column_in c =
    let at = rw c.deref-2.ensures.value at c.kept_slot-column.ensures in
    omega (arith, (c.self.invariant.paired.law_slot c.args.to c.kept_slot-column.result at).0, c.self.invariant.reached_size.columns_are)

pub link_reached-requires-clause-from_in : goal.link_reached-requires-clause-from_in
link_reached-requires-clause-from_in c =
    let at = rw c.deref.ensures.value at c.kept_slot-row.ensures in
    omega (arith, (c.self.invariant.paired.law_slot c.args.from c.kept_slot-row.result at).0, c.self.invariant.marks_size.columns_are)

pub link_reached-requires-clause-to_in : goal.link_reached-requires-clause-to_in
link_reached-requires-clause-to_in c =
    let at = rw c.deref-2.ensures.value at c.kept_slot-column.ensures in
    omega (arith, (c.self.invariant.paired.law_slot c.args.to c.kept_slot-column.result at).0, c.self.invariant.marks_size.columns_are)

pub link_covered-requires-clause-from_in : goal.link_covered-requires-clause-from_in
link_covered-requires-clause-from_in c =
    let at = rw c.deref.ensures.value at c.kept_slot-row.ensures in
    omega (arith, (c.self.invariant.paired.law_slot c.args.from c.kept_slot-row.result at).0, c.self.invariant.marks_size.columns_are, c.link_reached.ensures.marks_size.columns_stay)

pub link_covered-requires-clause-to_in : goal.link_covered-requires-clause-to_in
link_covered-requires-clause-to_in c =
    let at = rw c.deref-2.ensures.value at c.kept_slot-column.ensures in
    omega (arith, (c.self.invariant.paired.law_slot c.args.to c.kept_slot-column.result at).0, c.self.invariant.marks_size.columns_are, c.link_reached.ensures.marks_size.columns_stay)

pub invariant_of-self : goal.invariant_of-self
invariant_of-self c =
    let m = c.self.inside in
    let is = c.self.invariant in
    let marks = c.link_reached.ensures.marks in
    let size = is.marks_size.columns_are in
    record {
      own_inverse = is.own_inverse;
      same_size = is.same_size;
      paired = is.paired;
      few = is.few;
      many = is.many;
      duals_kept = is.duals_kept;
      reached_size = rw size at c.link_reached.ensures.reached_size;
      reaching_size = rw size at c.link_reached.ensures.reaching_size;
      covered_size = subst (IsSquare c.link_covered.new.covered) (c.link_reached.ensures.marks_size.columns_stay ∙ size) c.link_covered.ensures.covered_size;
      marks_size = record {
        rows_are = c.link_covered.ensures.marks_size.rows_stay ∙ c.link_reached.ensures.marks_size.rows_stay ∙ is.marks_size.rows_are;
        columns_are = c.link_covered.ensures.marks_size.columns_stay ∙ c.link_reached.ensures.marks_size.columns_stay ∙ size;
      };
      turned = c.link_reached.ensures.turned;
      closed = closed_linked (bit m.reached) (bit m.covered) (bit c.link_reached.new.reached) (bit c.link_covered.new.covered) c.kept_slot-row.result c.kept_slot-column.result is.closed c.link_reached.ensures.reached
          (covered_linked (bit m.reached) (bit m.covered) (bit c.link_covered.new.covered) c.kept_slot-row.result c.kept_slot-column.result (bit c.link_reached.new.marks 0) (bit c.link_reached.new.marks 1) is.closed marks.starts marks.ends c.link_covered.ensures.covered);
      none_covered = λ none x y. c.link_covered.ensures.covered x y ∙ sym (moved_none (bit c.link_reached.new.marks 0) (bit c.link_reached.new.marks 1) (bit m.covered) c.kept_slot-row.result c.kept_slot-column.result x y (is.none_covered none)) ∙ is.none_covered none x y;
    }

pub returns-then-not-get-clause-links : goal.returns-then-not-get-clause-links
returns-then-not-get-clause-links c =
    let m = c.self.inside in
    let at_from = rw c.deref.ensures.value at c.kept_slot-row.ensures in
    let at_to = rw c.deref-2.ensures.value at c.kept_slot-column.ensures in
    let new : Known = record { duals = m.duals.items; slots = m.slots.items; reached = c.link_reached.new.reached; covered = c.link_covered.new.covered } in
    let marks = c.link_reached.ensures.marks in
    subst (λ (k : Known). Links (is_reached k) (is_covered k) (is_reached new) (is_covered new) c.args.from c.args.to) c.self.view_is
    (links_anew m.duals.items m.slots.items m.reached m.covered c.link_reached.new.reached c.link_covered.new.covered c.args.from c.args.to c.kept_slot-row.result c.kept_slot-column.result at_from at_to c.link_reached.ensures.reached
    (covered_linked (bit m.reached) (bit m.covered) (bit c.link_covered.new.covered) c.kept_slot-row.result c.kept_slot-column.result (bit c.link_reached.new.marks 0) (bit c.link_reached.new.marks 1) c.self.invariant.closed marks.starts marks.ends c.link_covered.ensures.covered))

pub returns-else-not-get-clause-links : goal.returns-else-not-get-clause-links
returns-else-not-get-clause-links c =
    let m = c.self.inside in
    let at_from = rw c.deref.ensures.value at c.kept_slot-row.ensures in
    let at_to = rw c.deref-2.ensures.value at c.kept_slot-column.ensures in
    already
    (subst (λ (k : Known). is_reached k c.args.from c.args.to ≡ true) c.self.view_is
    (links_already m.duals.items m.slots.items m.reached m.covered c.args.from c.args.to c.kept_slot-row.result c.kept_slot-column.result at_from at_to (sym c.get.ensures ∙ c.if-not-get.false)))
    (λ x y. refl) (λ x y. refl)
