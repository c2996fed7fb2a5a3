use Rattle.std.proofs.Common.{◌≡◌, ◌∙◌, ap, sym, ℕ, get_or, unwrap_or, Option}
use Rattle.etp_bits.specs.Bits.{bit}
use Rattle.etp_closure.specs.Tables.{image_of, row_of}
use Rattle.etp_closure.proofs.Marking.{uncovered_law, found_more, law_by_line}
use Rattle.etp_closure.proofs.tables.mark_uncovered.Goals as goal

pub loop-law-preserved : goal.loop-law-preserved
loop-law-preserved c =
    let list = c.args.list.now in
    let i = c.loop-law.law-index in
    let slot = c.kept_slot-slot.result in
    let line = bit c.args.marks.now 1 in
    let covered = bit c.args.covered.now in
    let reached = bit c.args.reached.now in
    let row : ℕ → ℕ = λ law. row_of c.args.slots.now (image_of c.args.duals.now c.args.dual law) in
    let at : row (get_or list i 0) ≡ slot = ap (row_of c.args.slots.now) (sym c.image.ensures) ∙ ap (λ (o : Option ℕ). unwrap_or o 0) c.kept_slot-slot.ensures in
    let inv = c.loop-law.invariant in
    let marked = law_by_line (bit c.loop-law.marks 0) (bit c.mark_law-found.new.marks 0) (bit c.loop-law.marks 1) line reached covered slot c.loop-law.found c.mark_law-found.result inv.line c.mark_law-found.ensures.marked in
    record {
      sizes = record { rows_stay = c.mark_law-found.ensures.sizes.rows_stay ∙ inv.sizes.rows_stay; columns_stay = c.mark_law-found.ensures.sizes.columns_stay ∙ inv.sizes.columns_stay };
      line = λ k. c.mark_law-found.ensures.line k ∙ inv.line k;
      found_in = c.mark_law-found.ensures.found_in;
      known = found_more (bit c.loop-law.marks 0) (bit c.mark_law-found.new.marks 0) line reached covered slot c.loop-law.found c.mark_law-found.result marked inv.known;
      uncovered = uncovered_law (bit c.loop-law.marks 0) (bit c.mark_law-found.new.marks 0) line covered reached row list i slot c.loop-law.found c.mark_law-found.result c.loop-law-test.true at c.requires.closed inv.known marked inv.uncovered;
    }
