use Rattle.std.proofs.Common.{◌∙◌, arith}
use Rattle.etp_bits.specs.Bits.{bit}
use Rattle.etp_closure.proofs.Closing.{moved_marked, moved_none, moved_inside}
use Rattle.etp_closure.proofs.tables.link_covered.Goals as goal

pub returns-then-not-has_covered-clause-covered : goal.returns-then-not-has_covered-clause-covered
returns-then-not-has_covered-clause-covered c = λ x y.
    moved_none (bit c.args.marks.now 0) (bit c.args.marks.now 1) (bit c.args.covered.now) c.args.from c.args.to x y
    (c.requires.none_covered c.if-not-has_covered.true)

pub returns-clause-covered : goal.returns-clause-covered
returns-clause-covered c = λ x y.
    let rows = c.join_marked.ensures.sizes.rows_stay ∙ c.requires.covered_size.rows_are in
    moved_marked (bit c.args.marks.now) (bit c.join_row.new.self) (bit c.mark_column.new.marks) (bit c.args.covered.now) (bit c.join_marked.new.self) (bit c.join_marked-2.new.self)
    c.args.from c.args.to c.join_marked.new.self.rows c.requires.third c.requires.fourth c.join_row.ensures.bits c.join_marked.ensures.bits c.mark_column.ensures.bits c.join_marked-2.ensures.bits
    (λ r k on. omega (arith, (c.requires.covered_size.within r k on).0, rows)) (λ r on. omega (arith, c.requires.marked_in 1 r on, rows)) x y

pub returns-clause-covered_size : goal.returns-clause-covered_size
returns-clause-covered_size c =
    let rows = c.join_marked.ensures.sizes.rows_stay ∙ c.requires.covered_size.rows_are in
    moved_inside c.args.covered.now c.join_marked-2.new.self (bit c.args.marks.now 0) (bit c.args.marks.now 1) c.args.from c.args.to c.args.marks.now.columns c.requires.covered_size
    (record { rows_stay = c.join_marked-2.ensures.sizes.rows_stay ∙ c.join_marked.ensures.sizes.rows_stay; columns_stay = c.join_marked-2.ensures.sizes.columns_stay ∙ c.join_marked.ensures.sizes.columns_stay })
    (λ law. c.requires.marked_in 0 law) (λ law. c.requires.marked_in 1 law)
    (λ x y.
    moved_marked (bit c.args.marks.now) (bit c.join_row.new.self) (bit c.mark_column.new.marks) (bit c.args.covered.now) (bit c.join_marked.new.self) (bit c.join_marked-2.new.self)
    c.args.from c.args.to c.join_marked.new.self.rows c.requires.third c.requires.fourth c.join_row.ensures.bits c.join_marked.ensures.bits c.mark_column.ensures.bits c.join_marked-2.ensures.bits
    (λ r k on. omega (arith, (c.requires.covered_size.within r k on).0, rows)) (λ r on. omega (arith, c.requires.marked_in 1 r on, rows)) x y)
