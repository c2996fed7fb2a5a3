use Rattle.std.proofs.Common.{◌≡◌, ◌≤◌, ◌*◌, ◌<◌, ap, subst, sym, arith, vec_len, ℕ, true}
use Rattle.std.proofs.Math.Nat.{mul-le-mul_right}
use Rattle.etp_bits.specs.Bits.{Bits, Resizes, bit}
use Rattle.etp_bits.specs.Words.{bits_of}
use Rattle.etp_bits.proofs.Rows.{Grown, shrunk}
use Rattle.etp_bits.proofs.matrix.Matrix.shrink.Goals as goal

after : (c : goal.After-self-2-1)
    → Grown c.args.rows c.args.columns c.self.inside.stride (vec_len c.truncate.new.self) c.truncate.new.self.items (bits_of c.self.inside.rows c.self.inside.columns c.self.inside.stride c.self.inside.words.items)
after c =
    let m = c.self.inside in
    let rows = ap (λ (b : Bits). b.rows) c.self.view_is in
    let columns = ap (λ (b : Bits). b.columns) c.self.view_is in
    let fewer : c.args.rows ≤ m.rows = omega (arith, rows) in
    let fits : c.args.rows * m.stride ≤ m.rows * m.stride = mul-le-mul_right m.stride fewer in
    let off = subst (λ (b : Bits). (row column : ℕ) → bit b row column ≡ true → (row < c.args.rows) × (column < c.args.columns)) (sym c.self.view_is) c.requires.off_past in
    shrunk m.rows m.columns m.stride m.words.len m.words.items c.args.rows c.args.columns (vec_len c.truncate.new.self) c.truncate.new.self.items c.self.invariant fewer (omega (arith, columns)) off c.truncate.ensures.items (omega (arith, c.truncate.ensures.len, c.self.invariant.size, fits))

pub invariant_of-self : goal.invariant_of-self
invariant_of-self c = (after c).laid

pub returns : goal.returns
returns c =
    subst (λ (b : Bits). Resizes b (bits_of c.args.rows c.args.columns c.self.inside.stride c.truncate.new.self.items) c.args.rows c.args.columns) c.self.view_is (after c).grows
