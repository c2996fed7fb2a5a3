use Rattle.std.proofs.Common.{◌≡◌, ◌∙◌, ap, sym, arith, replicate, rules}
use Rattle.std.specs.Vec.{vec_len}
use Rattle.etp_bits.proofs.Rows.{IsDark, dark}
use Rattle.etp_bits.proofs.matrix.Matrix.start.Goals as goal

started : (c : goal.In_ok-words) → IsDark c.args.rows c.args.columns c.words_for-stride.result (vec_len c.in_ok-words.words) c.in_ok-words.words.items
started c =
    let zeros : c.in_ok-words.words.items ≡ replicate (vec_len c.in_ok-words.words) 0 =
    c.in_ok-words.ensures.items_if_clones_equal (search rules) ∙ ap (λ n. replicate n 0) (sym c.in_ok-words.ensures.len) in
    dark c.args.rows c.args.columns c.words_for-stride.result (vec_len c.in_ok-words.words) c.in_ok-words.words.items c.in_ok-words.ensures.len (omega (arith, c.words_for-stride.ensures)) (omega (arith, c.words_for-stride.ensures, c.ranges.columns.fits)) zeros

pub invariant_of-result : goal.invariant_of-result
invariant_of-result c = (started c).laid

pub returns : goal.returns
returns c = (started c).blank
