use Rattle.std.proofs.Common.{◌≡◌, ◌∙◌, ◌*◌, ap, arith, not, ◌&&◌, refl}
use Rattle.etp_bits.specs.Bits.{Bits, bit}
use Rattle.etp_bits.specs.Counts.{count_below}
use Rattle.etp_bits.specs.Words.{lit, bits_of}
use Rattle.etp_bits.proofs.Counting.{count_below_le}
use Rattle.etp_bits.proofs.Rows.{count_needed, bit_within}
use Rattle.etp_bits.proofs.matrix.Matrix.count_without.Goals as goal

counted : (c : goal.After-count_without) → c.count_without.result ≡ count_below (λ column. bit c.args.self.now c.args.row column && not (bit c.args.other.now c.args.other_row column)) c.args.self.now.columns
counted c =
    let m = c.self.inside in
    let o = c.other.inside in
    let rows = ap (λ (b : Bits). b.rows) c.self.view_is in
    let columns = ap (λ (b : Bits). b.columns) c.self.view_is in
    let other_rows = ap (λ (b : Bits). b.rows) c.other.view_is in
    let other_columns = ap (λ (b : Bits). b.columns) c.other.view_is in
    let start = c.args.row * m.stride in
    let from = c.args.other_row * o.stride in
    let words = rw (c.deref.ensures.value, c.deref-2.ensures.value, c.words_for-count.ensures) at c.count_without.ensures in
    words
    ∙ count_needed (λ column. lit m.words.items start column && not (lit o.words.items from column))
    (λ column. bit (bits_of m.rows m.columns m.stride m.words.items) c.args.row column && not (bit (bits_of o.rows o.columns o.stride o.words.items) c.args.other_row column)) m.columns
    (λ column h. rw (bit_within m.rows m.columns m.stride m.words.items c.args.row column (omega (arith, rows)) h, bit_within o.rows o.columns o.stride o.words.items c.args.other_row column (omega (arith, other_rows)) (omega (arith, columns, other_columns))) refl)
    (λ column past h. rw (c.self.invariant.off_past c.args.row column (omega (arith, rows)) past (omega (arith, c.self.invariant.wide))) refl)
    ∙ ap (λ (b : Bits). count_below (λ column. bit b c.args.row column && not (bit (bits_of o.rows o.columns o.stride o.words.items) c.args.other_row column)) b.columns) c.self.view_is
    ∙ ap (λ (b : Bits). count_below (λ column. bit c.args.self.now c.args.row column && not (bit b c.args.other_row column)) c.args.self.now.columns) c.other.view_is

pub overflow_cast-result : goal.overflow_cast-result
overflow_cast-result c =
    let columns = ap (λ (b : Bits). b.columns) c.self.view_is in
    omega (arith, counted c, count_below_le (λ column. bit c.args.self.now c.args.row column && not (bit c.args.other.now c.args.other_row column)) c.args.self.now.columns, columns)

pub returns : goal.returns
returns c = counted c
