use Rattle.std.proofs.Common.{◌∙◌, ap, arith, nat_eq, bit_and, ◌/◌, ◌%◌, ◌^◌}
use Rattle.std.proofs.lemmas.List.{get_or_read}
use Rattle.etp_bits.specs.Bits.{Bits, bit}
use Rattle.etp_bits.proofs.Rows.{place_within, read_bit}
use Rattle.etp_bits.proofs.matrix.Matrix.get.Goals as goal

pub index-word-requires : goal.index-word-requires
index-word-requires c =
    let m = c.self.inside in
    let rows = ap (λ (b : Bits). b.rows) c.self.view_is in
    let columns = ap (λ (b : Bits). b.columns) c.self.view_is in
    place_within m.rows m.columns m.stride _ m.words.items c.args.row c.args.column c.self.invariant (omega (arith, rows)) (omega (arith, columns))

pub returns : goal.returns
returns c =
    let m = c.self.inside in
    let rows = ap (λ (b : Bits). b.rows) c.self.view_is in
    let columns = ap (λ (b : Bits). b.columns) c.self.view_is in
    let place = place_within m.rows m.columns m.stride _ m.words.items c.args.row c.args.column c.self.invariant (omega (arith, rows)) (omega (arith, columns)) in
    let read = get_or_read m.words.items _ _ (omega (arith, place, m.words.ok.0)) c.index-word.ensures 0 in
    ap (λ w. nat_eq (bit_and (w / 2 ^ (c.args.column % 64)) 1) 1) read
    ∙ read_bit m.rows m.columns m.stride m.words.items c.args.row c.args.column (omega (arith, rows)) (omega (arith, columns))
    ∙ ap (λ (b : Bits). bit b c.args.row c.args.column) c.self.view_is
