use Rattle.std.proofs.Common.{◌≡◌, ◌∙◌, ◌&&◌, not, nat_eq, ap, sym, subst, arith, List, ℕ}
use Rattle.std.specs.Vec.{with_items}
use Rattle.std.proofs.lemmas.List.{with_items_is}
use Rattle.etp_bits.specs.Bits.{Bits, bit}
use Rattle.etp_bits.specs.Words.{IsLaidOut, bits_of}
use Rattle.etp_bits.proofs.Joins.{BitsJoined, difference_joined}
use Rattle.etp_bits.proofs.matrix.Matrix.join_difference.Goals as goal

joined : (c : goal.After-self-1)
    → BitsJoined c.self.inside.rows c.self.inside.columns c.self.inside.stride c.self.inside.words.len c.self.inside.words.items c.join_without.new.words
    (λ r k. nat_eq r c.args.into && (bit (bits_of c.other.inside.rows c.other.inside.columns c.other.inside.stride c.other.inside.words.items) c.args.from k && not (bit (bits_of c.other.inside.rows c.other.inside.columns c.other.inside.stride c.other.inside.words.items) c.args.without k)))
joined c =
    let m = c.self.inside in
    let o = c.other.inside in
    let rows = ap (λ (b : Bits). b.rows) c.self.view_is in
    let columns = ap (λ (b : Bits). b.columns) c.self.view_is in
    let other_rows = ap (λ (b : Bits). b.rows) c.other.view_is in
    let other_columns = ap (λ (b : Bits). b.columns) c.other.view_is in
    let joins = rw (c.deref_mut.ensures.value, c.deref.ensures.value, c.words_for-count.ensures) at c.join_without.ensures in
    difference_joined m.rows m.columns m.stride m.words.len m.words.items c.join_without.new.words o.rows o.columns o.stride o.words.len o.words.items c.args.into c.args.from c.args.without c.self.invariant c.other.invariant
    (omega (arith, rows, c.requires.into_in)) (omega (arith, other_rows, c.requires.from_in)) (omega (arith, other_rows, c.requires.without_in)) (omega (arith, columns, other_columns, c.requires.narrow)) joins

written : (c : goal.After-self-1) → (with_items c.self.inside.words c.join_without.new.words).items ≡ c.join_without.new.words
written c = with_items_is c.self.inside.words c.join_without.new.words (omega (arith, c.join_without.auto.words, c.deref_mut.ensures.len))

pub invariant_of-self : goal.invariant_of-self
invariant_of-self c =
    let m = c.self.inside in
    subst (λ (ws : List ℕ). IsLaidOut m.rows m.columns m.stride m.words.len ws) (sym (written c)) (joined c).laid

pub returns-clause-bits : goal.returns-clause-bits
returns-clause-bits c = λ row column.
    let m = c.self.inside in
    let now = ap (λ (ws : List ℕ). bit (bits_of m.rows m.columns m.stride ws) row column) (written c) in
    let before = ap (λ (b : Bits). bit b row column) c.self.view_is in
    let from = ap (λ (b : Bits). bit b c.args.from column) c.other.view_is in
    let without = ap (λ (b : Bits). bit b c.args.without column) c.other.view_is in
    now ∙ (rw (before, from, without) at ((joined c).bits row column))
