use Rattle.std.proofs.Common.{◌≡◌, ◌∙◌, ◌*◌, ap, sym, arith}
use Rattle.etp_bits.specs.Bits.{Bits, bit}
use Rattle.etp_bits.specs.Counts.{count_below}
use Rattle.etp_bits.specs.Words.{lit, bits_of}
use Rattle.etp_bits.proofs.Counting.{count_below_le}
use Rattle.etp_bits.proofs.Rows.{count_needed, bit_within}
use Rattle.etp_bits.proofs.matrix.Matrix.count_row.Goals as goal

counted : (c : goal.After-count_on) → c.count_on.result ≡ count_below (bit c.args.self.now c.args.row) c.args.self.now.columns
counted c =
    let m = c.self.inside in
    let rows = ap (λ (b : Bits). b.rows) c.self.view_is in
    let start = c.args.row * m.stride in
    let words = rw (c.deref.ensures.value, c.words_for-count.ensures) at c.count_on.ensures in
    words
    ∙ count_needed (lit m.words.items start) (bit (bits_of m.rows m.columns m.stride m.words.items) c.args.row) m.columns
    (λ column h. sym (bit_within m.rows m.columns m.stride m.words.items c.args.row column (omega (arith, rows)) h))
    (λ column past h. c.self.invariant.off_past c.args.row column (omega (arith, rows)) past (omega (arith, c.self.invariant.wide)))
    ∙ ap (λ (b : Bits). count_below (bit b c.args.row) b.columns) c.self.view_is

pub overflow_cast-result : goal.overflow_cast-result
overflow_cast-result c =
    let columns = ap (λ (b : Bits). b.columns) c.self.view_is in
    omega (arith, counted c, count_below_le (bit c.args.self.now c.args.row) c.args.self.now.columns, columns)

pub returns : goal.returns
returns c = counted c
