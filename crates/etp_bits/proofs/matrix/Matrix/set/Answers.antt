use Rattle.std.proofs.Common.{◌+◌, ◌*◌, ◌/◌, ◌%◌, ◌^◌, ap, arith, bit_or, set}
use Rattle.std.proofs.lemmas.List.{get_or_read}
use Rattle.etp_bits.specs.Bits.{Bits, bit}
use Rattle.etp_bits.proofs.Rows.{BitSet, bit_set, place_within}
use Rattle.etp_bits.proofs.matrix.Matrix.set.Goals as goal

after : (c : goal.After-self-1)
    → BitSet c.self.inside.rows c.self.inside.columns c.self.inside.stride c.self.inside.words.len c.self.inside.words.items (set c.self.inside.words.items (c.args.row * c.self.inside.stride + c.args.column / 64) (bit_or c.index_mut.result.now (1 * 2 ^ (c.args.column % 64) % 2 ^ 64))) c.args.row c.args.column
after c =
    let m = c.self.inside in
    let rows = ap (λ (b : Bits). b.rows) c.self.view_is in
    let columns = ap (λ (b : Bits). b.columns) c.self.view_is in
    let place = place_within m.rows m.columns m.stride m.words.len m.words.items c.args.row c.args.column c.self.invariant (omega (arith, rows)) (omega (arith, columns)) in
    let read = get_or_read m.words.items _ _ (omega (arith, place, m.words.ok.0)) c.index_mut.ensures.value 0 in
    bit_set m.rows m.columns m.stride m.words.len m.words.items c.args.row c.args.column c.index_mut.result.now c.self.invariant (omega (arith, m.words.ok.0)) (omega (arith, rows)) (omega (arith, columns)) read

pub invariant_of-self : goal.invariant_of-self
invariant_of-self c = (after c).laid

pub returns-clause-bits : goal.returns-clause-bits
returns-clause-bits c = λ row column.
    let before = ap (λ (b : Bits). bit b row column) c.self.view_is in
    rw before at ((after c).bits row column)
