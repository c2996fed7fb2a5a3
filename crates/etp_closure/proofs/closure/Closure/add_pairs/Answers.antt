use Rattle.std.proofs.Common.{◌≡◌, ◌∙◌, ap, sym, subst, arith, ℕ, List, get_or, length, ◌<◌, ◌&&◌, ◌||◌}
use Rattle.std.specs.List.{list_any}
use Rattle.std.proofs.lemmas.Bool.{and_parts}
use Rattle.etp_bits.specs.Bits.{bit}
use Rattle.etp_closure.specs.Tables.{image_of, row_of}
use Rattle.etp_closure.specs.Closures.{Known, IsKept, is_reached, is_covered}
use Rattle.etp_closure.proofs.Truths.{slot_within, pairs_covered, refuted_bits, any_turned, image_kept}
use Rattle.etp_closure.proofs.Marking.{any_onward, any_back, any_inside}
use Rattle.etp_closure.proofs.Closing.{closed_paired, square_joined}
use Rattle.etp_closure.proofs.closure.Closure.add_pairs.Goals as goal

pub mark_joined-requires-clause-rows : goal.mark_joined-requires-clause-rows
mark_joined-requires-clause-rows c = λ law slot at.
    let m = c.self.inside in
    let inside = slot_within m.duals.items m.slots.items m.laws.items m.reached m.covered m.marks m.reaching m.has_covered c.self.invariant law slot (rw c.deref.ensures.value at at) in
    (omega (arith, inside.0, c.self.invariant.reaching_size.rows_are), omega (arith, inside.5, c.clear.ensures.columns_are))

pub mark_uncovered-requires-clause-rows : goal.mark_uncovered-requires-clause-rows
mark_uncovered-requires-clause-rows c = λ law slot at.
    let m = c.self.inside in
    let inside = slot_within m.duals.items m.slots.items m.laws.items m.reached m.covered m.marks m.reaching m.has_covered c.self.invariant law slot (rw c.deref-3.ensures.value at at) in
    (inside.1, inside.3, inside.2)

-- what the marked rows say of the covered pairs, by the slots
bits : (c : goal.After-self-1) (x y : ℕ)
    → bit c.join_marked.new.self x y
    ≡ (bit c.self.inside.covered x y
    || (list_any (λ law. bit c.self.inside.reached (row_of c.self.inside.slots.items (image_of c.self.inside.duals.items c.args.dual law)) x) c.args.holds.now
    && list_any (λ law. bit c.self.inside.reached y (row_of c.self.inside.slots.items (image_of c.self.inside.duals.items c.args.dual law))) c.args.fails.now))
bits c x y =
    let m = c.self.inside in
    let row : ℕ → ℕ = λ law. row_of m.slots.items (image_of m.duals.items c.args.dual law) in
    let first = rw (c.deref.ensures.value, c.deref-2.ensures.value) at c.mark_joined.ensures.bits in
    let second = rw (c.deref-3.ensures.value, c.deref-4.ensures.value) at c.mark_uncovered.ensures.uncovered in
    refuted_bits (bit m.covered) (bit c.join_marked.new.self) (bit c.mark_uncovered.new.marks 0) (bit c.mark_joined.new.marks 1) (λ k. list_any (λ law. bit m.reached (row law) k) c.args.holds.now) second
    (λ u v. c.join_marked.ensures.bits u v ∙ ap (λ b. bit m.covered u v || (bit c.mark_uncovered.new.marks 0 u && b)) (c.mark_uncovered.ensures.line v)) x y
    ∙ ap (λ b. bit m.covered x y || (list_any (λ law. bit m.reached (row law) x) c.args.holds.now && b)) (first y ∙ any_turned m.reached m.reaching row c.args.fails.now y c.self.invariant.turned)

pub invariant_of-self : goal.invariant_of-self
invariant_of-self c =
    let m = c.self.inside in
    let is = c.self.invariant in
    let row : ℕ → ℕ = λ law. row_of m.slots.items (image_of m.duals.items c.args.dual law) in
    record {
      own_inverse = is.own_inverse;
      same_size = is.same_size;
      paired = is.paired;
      few = is.few;
      many = is.many;
      duals_kept = is.duals_kept;
      reached_size = is.reached_size;
      reaching_size = is.reaching_size;
      covered_size = square_joined m.covered c.join_marked.new.self (length m.laws.items)
          (λ x y. list_any (λ law. bit m.reached (row law) x) c.args.holds.now && list_any (λ law. bit m.reached y (row law)) c.args.fails.now) is.covered_size c.join_marked.ensures.sizes (bits c)
          (λ x y on.
          let parts = and_parts (list_any (λ law. bit m.reached (row law) x) c.args.holds.now) (list_any (λ law. bit m.reached y (row law)) c.args.fails.now) on in (
            any_inside (λ law. bit m.reached (row law) x) (x < length m.laws.items) c.args.holds.now (λ law h. (is.reached_size.within (row law) x h).1) parts.0,
            any_inside (λ law. bit m.reached y (row law)) (y < length m.laws.items) c.args.fails.now (λ law h. (is.reached_size.within y (row law) h).0) parts.1,
          ));
      marks_size = record {
        rows_are = c.mark_uncovered.ensures.sizes.rows_stay ∙ c.mark_joined.ensures.sizes.rows_stay ∙ c.clear.ensures.rows_are ∙ is.marks_size.rows_are;
        columns_are = c.mark_uncovered.ensures.sizes.columns_stay ∙ c.mark_joined.ensures.sizes.columns_stay ∙ c.clear.ensures.columns_are ∙ is.marks_size.columns_are;
      };
      turned = is.turned;
      closed = closed_paired (bit m.reached) (bit m.covered) (bit c.join_marked.new.self)
          (λ x. list_any (λ law. bit m.reached (row law) x) c.args.holds.now) (λ y. list_any (λ law. bit m.reached y (row law)) c.args.fails.now) is.closed
          (λ x z h k. any_onward (bit m.reached) row c.args.holds.now x z is.closed.onward h k)
          (λ y z h k. any_back (bit m.reached) row c.args.fails.now y z is.closed.onward h k)
          (bits c);
      none_covered = λ no. (cc (no));
    }

covered : (c : goal.After-self-1) (x y : ℕ)
    → is_covered (record { duals = c.self.inside.duals.items; slots = c.self.inside.slots.items; reached = c.self.inside.reached; covered = c.join_marked.new.self }) x y
    ≡ (is_covered (record { duals = c.self.inside.duals.items; slots = c.self.inside.slots.items; reached = c.self.inside.reached; covered = c.self.inside.covered }) x y
    || (list_any (λ law. is_reached (record { duals = c.self.inside.duals.items; slots = c.self.inside.slots.items; reached = c.self.inside.reached; covered = c.self.inside.covered }) (image_of c.self.inside.duals.items c.args.dual law) x) c.args.holds.now
    && list_any (λ law. is_reached (record { duals = c.self.inside.duals.items; slots = c.self.inside.slots.items; reached = c.self.inside.reached; covered = c.self.inside.covered }) y (image_of c.self.inside.duals.items c.args.dual law)) c.args.fails.now))
covered c x y =
    let m = c.self.inside in
    let is = c.self.invariant in
    let slots : (λ (k : Known). k.slots) (record { duals = m.duals.items; slots = m.slots.items; reached = m.reached; covered = m.covered }) ≡ c.args.self.now.slots = ap (λ (k : Known). k.slots) c.self.view_is in
    pairs_covered m.duals.items m.slots.items m.reached m.covered c.join_marked.new.self (image_of m.duals.items c.args.dual) c.args.holds.now c.args.fails.now
    (λ i h. image_kept m.duals.items m.slots.items is.duals_kept c.args.dual _ (subst (λ (ss : List ℕ). IsKept ss (get_or c.args.holds.now i 0)) (sym slots) (c.requires.holds_kept i 0 h)))
    (λ i h. image_kept m.duals.items m.slots.items is.duals_kept c.args.dual _ (subst (λ (ss : List ℕ). IsKept ss (get_or c.args.fails.now i 0)) (sym slots) (c.requires.fails_kept i 0 h)))
    (λ a s b t at_a at_b. bits c s t)
    x y

pub returns-clause-covered : goal.returns-clause-covered
returns-clause-covered c = λ x y.
    let m = c.self.inside in
    let new : Known = record { duals = m.duals.items; slots = m.slots.items; reached = m.reached; covered = c.join_marked.new.self } in
    subst (λ (k : Known). is_covered new x y ≡ (is_covered k x y || (list_any (λ law. is_reached k (image_of k.duals c.args.dual law) x) c.args.holds.now && list_any (λ law. is_reached k y (image_of k.duals c.args.dual law)) c.args.fails.now))) c.self.view_is
    (covered c x y)
