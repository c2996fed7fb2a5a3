use Rattle.std.proofs.Common.{◌≡◌, ◌∙◌, ap, sym, ℕ, get_or, unwrap_or, Option}
use Rattle.etp_bits.specs.Bits.{bit}
use Rattle.etp_closure.specs.Tables.{image_of, row_of}
use Rattle.etp_closure.proofs.Marking.{joined_marked, joined_more, row_into, row_beside}
use Rattle.etp_closure.proofs.tables.mark_joined.Goals as goal
use Rattle.etp_closure.proofs.tables.mark_joined.Goals.{then-not-get, else-not-get}

pub loop-law-preserved : goal.loop-law-preserved
loop-law-preserved c =
    let list = c.args.list.now in
    let i = c.loop-law.law-index in
    let slot = c.kept_slot-slot.result in
    let row : ℕ → ℕ = λ law. row_of c.args.slots.now (image_of c.args.duals.now c.args.dual law) in
    let at : row (get_or list i 0) ≡ slot = ap (row_of c.args.slots.now) (sym c.image.ensures) ∙ ap (λ (o : Option ℕ). unwrap_or o 0) c.kept_slot-slot.ensures in
    let inv = c.loop-law.invariant in
    elim c.if-not-get.branch [
      | then-not-get w ↦
          rw w.marks-is (record {
            sizes = record { rows_stay = w.join_row.ensures.sizes.rows_stay ∙ inv.sizes.rows_stay; columns_stay = w.join_row.ensures.sizes.columns_stay ∙ inv.sizes.columns_stay };
            others = λ r k other. row_beside (bit c.loop-law.marks) (bit w.join_row.new.self) 1 (bit c.args.matrix.now slot) w.join_row.ensures.bits r k other ∙ inv.others r k other;
            bits = joined_more (bit c.args.matrix.now) row list i slot (bit c.loop-law.marks 1) (bit w.join_row.new.self 1) c.loop-law-test.true at inv.bits
                (row_into (bit c.loop-law.marks) (bit w.join_row.new.self) 1 (bit c.args.matrix.now slot) w.join_row.ensures.bits);
          })
      | else-not-get w ↦
          rw w.marks-is (record {
            sizes = inv.sizes;
            others = inv.others;
            bits = joined_marked (bit c.args.matrix.now) row list i slot (bit c.loop-law.marks 1) c.requires.onward c.loop-law-test.true at inv.bits (sym c.get.ensures ∙ w.if-not-get.false);
          })
    ]
