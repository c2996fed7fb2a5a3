use Rattle.std.proofs.Common.{◌≡◌, ◌≢◌, ◌∙◌, ap, sym, arith, true, false, Bool, not, refl}
use Rattle.std.proofs.lemmas.Bool.{false_from_ne_true}
use Rattle.etp_bits.specs.Bits.{Bits, bit}
use Rattle.etp_bits.proofs.Joins.{lacks_lit, lit_lacks}
use Rattle.etp_bits.proofs.matrix.Matrix.has_all.Goals as goal

decided : (b : Bool) → (b ≢ true → b ≡ false)
decided b = false_from_ne_true b

stable : (b : Bool) → ((b ≢ true) → ⊥) → b ≡ true
stable true h = refl
stable false h = absurd (h (λ e. cc e))

opposite : (b : Bool) → not b ≡ true → b ≡ true → ⊥
opposite true h k = (cc (h))
opposite false h k = (cc (k))

pub returns : goal.returns
returns c =
    let m = c.self.inside in
    let o = c.other.inside in
    let rows = ap (λ (b : Bits). b.rows) c.self.view_is in
    let columns = ap (λ (b : Bits). b.columns) c.self.view_is in
    let other_rows = ap (λ (b : Bits). b.rows) c.other.view_is in
    let other_columns = ap (λ (b : Bits). b.columns) c.other.view_is in
    let none = rw (c.deref.ensures.value, c.deref-2.ensures.value, c.words_for-count.ensures) at c.any_without.ensures.none in
    let found = rw (c.deref.ensures.value, c.deref-2.ensures.value, c.words_for-count.ensures) at c.any_without.ensures.found in (
      (λ all column on. stable (bit c.args.self.now c.args.row column) (λ off.
          opposite c.any_without.result all (none (lacks_lit o.rows o.columns o.stride o.words.len o.words.items m.rows m.columns m.stride m.words.len m.words.items c.args.other_row c.args.row column c.other.invariant c.self.invariant
          (omega (arith, other_rows, c.requires.other_row_in)) (omega (arith, rows, c.requires.row_in)) (omega (arith, columns, other_columns, c.requires.narrow))
          (ap (λ (b : Bits). bit b c.args.other_row column) c.other.view_is ∙ on)
          (λ e. off (sym (ap (λ (b : Bits). bit b c.args.row column) c.self.view_is) ∙ e)))))),
      (λ all. ap not (decided c.any_without.result (λ on.
          lit_lacks o.rows o.columns o.stride o.words.len o.words.items m.rows m.columns m.stride m.words.len m.words.items c.args.other_row c.args.row c.other.invariant c.self.invariant
          (omega (arith, other_rows, c.requires.other_row_in)) (omega (arith, rows, c.requires.row_in)) (omega (arith, columns, other_columns, c.requires.narrow))
          (λ column h. ap (λ (b : Bits). bit b c.args.row column) c.self.view_is ∙ all column (sym (ap (λ (b : Bits). bit b c.args.other_row column) c.other.view_is) ∙ h)) (found on)))),
    )
