use Rattle.std.proofs.Common.{◌≡◌, ◌∙◌, arith, length, sym, refl}
use Rattle.etp_bits.specs.Bits.{bit}
use Rattle.etp_closure.proofs.Standing.{stands_empty}
use Rattle.etp_closure.proofs.Closing.{closed_blank, closed_grown, itself_keeps, itself_only, turned_itself}
use Rattle.etp_closure.proofs.Truths.{cleared_reached, cleared_covered, cleared_square, blank_square}
use Rattle.etp_closure.proofs.closure.Closure.clear.Goals as goal

pub invariant_of-self : goal.invariant_of-self
invariant_of-self c =
    let m = c.self.inside in
    let is = c.self.invariant in
    let count : c.len-count.result ≡ length m.laws.items = omega (arith, c.len-count.ensures, m.laws.ok.0) in
    let reached = rw count at c.reach_themselves.ensures.bits in
    let reaching = rw count at c.reach_themselves-2.ensures.bits in
    record {
      own_inverse = is.own_inverse;
      same_size = is.same_size;
      paired = is.paired;
      few = is.few;
      many = is.many;
      duals_kept = is.duals_kept;
      reached_size = cleared_square c.clear.new.self c.reach_themselves.new.reached (length m.laws.items) c.clear.ensures.all_off
          (c.reach_themselves.ensures.sizes.rows_stay ∙ c.clear.ensures.rows_are ∙ is.reached_size.rows_are)
          (c.reach_themselves.ensures.sizes.columns_stay ∙ c.clear.ensures.columns_are ∙ is.reached_size.columns_are)
          reached;
      covered_size = blank_square c.clear-3.new.self (length m.laws.items) (c.clear-3.ensures.rows_are ∙ is.covered_size.rows_are)
          (c.clear-3.ensures.columns_are ∙ is.covered_size.columns_are) c.clear-3.ensures.all_off;
      marks_size = is.marks_size;
      reaching_size = cleared_square c.clear-2.new.self c.reach_themselves-2.new.reached (length m.laws.items) c.clear-2.ensures.all_off
          (c.reach_themselves-2.ensures.sizes.rows_stay ∙ c.clear-2.ensures.rows_are ∙ is.reaching_size.rows_are)
          (c.reach_themselves-2.ensures.sizes.columns_stay ∙ c.clear-2.ensures.columns_are ∙ is.reaching_size.columns_are)
          reaching;
      turned = turned_itself c.clear.new.self c.clear-2.new.self c.reach_themselves.new.reached c.reach_themselves-2.new.reached 0 (length m.laws.items)
          (λ row column. c.clear-2.ensures.all_off column row ∙ sym (c.clear.ensures.all_off row column)) reached reaching;
      closed = closed_grown (bit c.clear.new.self) (bit c.clear-3.new.self) (bit c.reach_themselves.new.reached) (bit c.clear-3.new.self)
          (closed_blank (bit c.clear.new.self) (bit c.clear-3.new.self) c.clear.ensures.all_off c.clear-3.ensures.all_off)
          (λ x y on. itself_keeps c.clear.new.self c.reach_themselves.new.reached 0 (length m.laws.items) x y reached on)
          (λ x y on. itself_only c.clear.new.self c.reach_themselves.new.reached 0 (length m.laws.items) x y reached on)
          (λ x y. refl);
      none_covered = λ none. c.clear-3.ensures.all_off;
    }

pub returns-clause-stands : goal.returns-clause-stands
returns-clause-stands c =
    let m = c.self.inside in
    let count : c.len-count.result ≡ length m.laws.items = omega (arith, c.len-count.ensures, m.laws.ok.0) in
    stands_empty (record { duals = m.duals.items; slots = m.slots.items; reached = c.reach_themselves.new.reached; covered = c.clear-3.new.self })
    (cleared_reached m.duals.items m.slots.items m.laws.items c.clear.new.self c.reach_themselves.new.reached c.clear-3.new.self c.self.invariant.paired c.clear.ensures.all_off (rw count at c.reach_themselves.ensures.bits))
    (cleared_covered m.duals.items m.slots.items c.reach_themselves.new.reached c.clear-3.new.self c.clear-3.ensures.all_off)
