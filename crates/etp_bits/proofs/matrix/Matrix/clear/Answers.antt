use Rattle.std.proofs.Common.{◌≡◌, ◌∙◌, ap, sym, arith, replicate, rules}
use Rattle.std.specs.Vec.{vec_len}
use Rattle.etp_bits.specs.Bits.{Bits}
use Rattle.etp_bits.proofs.Rows.{IsDark, dark}
use Rattle.etp_bits.proofs.matrix.Matrix.clear.Goals as goal

cleared : (c : goal.After-fill) → IsDark c.self.inside.rows c.self.inside.columns c.self.inside.stride (vec_len c.fill.new.self) c.fill.new.self.items
cleared c =
    let m = c.self.inside in
    let zeros : c.fill.new.self.items ≡ replicate (vec_len c.fill.new.self) 0 =
    c.fill.ensures.items (search rules) ∙ ap (λ n. replicate n 0) (sym c.fill.ensures.len) in
    dark m.rows m.columns m.stride (vec_len c.fill.new.self) c.fill.new.self.items (omega (arith, c.fill.ensures.len, c.self.invariant.size)) c.self.invariant.wide c.self.invariant.narrow zeros

pub invariant_of-self : goal.invariant_of-self
invariant_of-self c = (cleared c).laid

pub returns : goal.returns
returns c =
    record {
      rows_are = ap (λ (b : Bits). b.rows) c.self.view_is;
      columns_are = ap (λ (b : Bits). b.columns) c.self.view_is;
      all_off = (cleared c).blank.all_off;
    }
