use Rattle.std.proofs.Common.{ap, subst, arith, vec_len}
use Rattle.etp_bits.specs.Bits.{Bits, Resizes}
use Rattle.etp_bits.specs.Words.{bits_of}
use Rattle.etp_bits.proofs.Rows.{Grown, grown}
use Rattle.etp_bits.proofs.matrix.Matrix.grow.Goals as goal

after : (c : goal.After-self-3-1)
    → Grown c.args.rows c.args.columns c.stride_for-stride.result (vec_len c.regrow.new.words) c.regrow.new.words.items (bits_of c.self.inside.rows c.self.inside.columns c.self.inside.stride c.self.inside.words.items)
after c =
    let m = c.self.inside in
    let rows = ap (λ (b : Bits). b.rows) c.self.view_is in
    let columns = ap (λ (b : Bits). b.columns) c.self.view_is in
    grown m.rows m.columns m.stride m.words.len m.words.items c.args.rows c.args.columns c.stride_for-stride.result (vec_len c.regrow.new.words) c.regrow.new.words.items c.self.invariant c.stride_for-stride.ensures.kept c.stride_for-stride.ensures.narrow c.in_ok-regrow.ensures.ok c.in_ok-regrow.ensures.len (omega (arith, c.stride_for-stride.ensures.enough, c.words_for.ensures)) (omega (arith, rows)) (omega (arith, columns))

pub invariant_of-self-2 : goal.invariant_of-self-2
invariant_of-self-2 c = (after c).laid

pub returns-clause-ok : goal.returns-clause-ok
returns-clause-ok c =
    subst (λ (b : Bits). Resizes b (bits_of c.args.rows c.args.columns c.stride_for-stride.result c.regrow.new.words.items) c.args.rows c.args.columns) c.self.view_is (after c).grows
