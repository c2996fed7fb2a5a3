use Rattle.std.proofs.Common.{arith, ◌≡◌, ◌≤◌, ◌*◌, ◌+◌, ◌-◌, ◌∙◌, vec_len, length, take, drop, refl}
use Rattle.std.proofs.lemmas.List.{length-take, length-drop, get_or-take, get_or-drop}
use Rattle.std.proofs.lemmas.Nat.{row_fits}
use Rattle.etp_bits.proofs.Rows.{spreads_more}
use Rattle.etp_bits.proofs.matrix.spread.Goals as goal

pub loop-row-preserved : goal.loop-row-preserved
loop-row-preserved c =
    let row = c.loop-row.row in
    let stride = c.args.stride in
    let wider = c.args.wider in
    let words = c.args.words.now in
    let extended = c.in_ok-extend_from_slice.ensures in
    let resized = c.in_ok-resize.ensures in
    let size = c.loop-row.invariant.size in
    let within : row * stride + stride ≤ length words = omega (arith, row_fits row stride c.args.rows stride c.loop-row-test.true (omega arith), c.requires.size) in
    let width : row * stride + stride - row * stride ≡ stride = omega arith in
    let piece : length (take (row * stride + stride - row * stride) (drop (row * stride) words)) ≡ stride =
    simp (length-take, length-drop) (omega (arith, within)) in
    let next : (row + 1) * wider ≡ row * wider + wider = omega arith in
    record {
      size = resized.len;
      spread_out =
          spreads_more words c.loop-row.spread.items c.extend_from_slice.new.self.items c.resize.new.self.items row stride wider c.requires.wide
          (λ k h. extended.by_index.0 k 0 (omega (arith, size)))
          (λ k h.
          let place : row * wider + k - vec_len c.loop-row.spread ≡ k = omega (arith, size) in
          extended.by_index.1 (row * wider + k) 0 refl (omega (arith, size))
          ∙ (rw place (get_or-take (row * stride + stride - row * stride) (drop (row * stride) words) k 0 (omega arith) ∙ get_or-drop (row * stride) words k 0)))
          (λ k h. resized.by_index.0 k 0 (omega (arith, next, c.requires.wide)) (omega (arith, extended.len, piece, size)))
          (λ k past below. resized.by_index.1 k 0 refl (omega (arith, extended.len, piece, size)) (omega (arith, next)))
          c.loop-row.invariant.spread_out;
    }
