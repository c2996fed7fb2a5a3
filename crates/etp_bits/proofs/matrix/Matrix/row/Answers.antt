use Rattle.std.proofs.Common.{◌≡◌, ◌∙◌, ◌+◌, ◌-◌, ◌*◌, ◌/◌, ap, arith, length, take, drop}
use Rattle.std.proofs.lemmas.List.{length-take, length-drop}
use Rattle.std.proofs.lemmas.Nat.{row_fits}
use Rattle.etp_bits.specs.Bits.{Bits, bit}
use Rattle.etp_bits.proofs.Joins.{row_alone, row_within}
use Rattle.etp_bits.proofs.matrix.Matrix.row.Goals as goal

pub returns-clause-len : goal.returns-clause-len
returns-clause-len c =
    let m = c.self.inside in
    let rows = ap (λ (b : Bits). b.rows) c.self.view_is in
    let columns = ap (λ (b : Bits). b.columns) c.self.view_is in
    let fits = row_fits c.args.row m.stride m.rows m.stride (omega (arith, rows, c.requires)) (omega arith) in
    simp (length-take, length-drop) (omega (arith, fits, columns, c.self.invariant.size, c.self.invariant.wide, c.deref.ensures.len, c.words_for.ensures))

pub returns-clause-bits : goal.returns-clause-bits
returns-clause-bits c = λ column.
    let m = c.self.inside in
    let rows = ap (λ (b : Bits). b.rows) c.self.view_is in
    let columns = ap (λ (b : Bits). b.columns) c.self.view_is in
    let fits = row_fits c.args.row m.stride m.rows m.stride (omega (arith, rows, c.requires)) (omega arith) in
    let size : length (take (c.args.row * m.stride + (m.columns + 63) / 64 - c.args.row * m.stride) (drop (c.args.row * m.stride) m.words.items)) ≡ (m.columns + 63) / 64 =
    simp (length-take, length-drop) (omega (arith, fits, c.self.invariant.size, c.self.invariant.wide, m.words.ok.0)) in
    rw (c.deref.ensures.value, c.words_for.ensures, size)
    (row_alone m.rows m.columns m.stride m.words.len m.words.items c.args.row column c.self.invariant (omega (arith, rows, c.requires))
    ∙ ap (λ (b : Bits). bit b c.args.row column) c.self.view_is)

pub returns-clause-within : goal.returns-clause-within
returns-clause-within c = λ column on.
    let m = c.self.inside in
    let columns = ap (λ (b : Bits). b.columns) c.self.view_is in
    omega (arith, columns, row_within m.rows m.columns m.stride m.words.items c.args.row column (ap (λ (b : Bits). bit b c.args.row column) c.self.view_is ∙ on))
