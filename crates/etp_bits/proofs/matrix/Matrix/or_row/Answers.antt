use Rattle.std.proofs.Common.{◌≡◌, ◌<◌, ◌∙◌, ap, sym, subst, arith, List, ℕ}
use Rattle.std.specs.Vec.{with_items}
use Rattle.std.proofs.lemmas.List.{with_items_is}
use Rattle.std.proofs.lemmas.Nat.{same_from_place}
use Rattle.etp_bits.specs.Bits.{Bits, bit}
use Rattle.etp_bits.specs.Words.{IsLaidOut, bits_of}
use Rattle.etp_bits.proofs.Rows.{RowJoined, row_joined}
use Rattle.etp_bits.proofs.matrix.Matrix.or_row.Goals as goal

pub join_within-requires-clause-unread : goal.join_within-requires-clause-unread
join_within-requires-clause-unread c = λ read written below within same.
    let m = c.self.inside in
    let fits : read < m.stride = omega (arith, c.self.invariant.wide, c.words_for-count.ensures) in
    let places = same_from_place c.args.from read c.args.into written m.stride fits (omega arith) same in
    (omega (arith, places.1))

joined : (c : goal.After-self-1)
    → RowJoined c.self.inside.rows c.self.inside.columns c.self.inside.stride c.self.inside.words.len c.self.inside.words.items c.join_within.new.words (bits_of c.self.inside.rows c.self.inside.columns c.self.inside.stride c.self.inside.words.items) c.args.into c.args.from
joined c =
    let m = c.self.inside in
    let rows = ap (λ (b : Bits). b.rows) c.self.view_is in
    let joins = rw (c.deref_mut.ensures.value, c.words_for-count.ensures) at c.join_within.ensures in
    row_joined m.rows m.columns m.stride m.words.len m.words.items c.join_within.new.words m.rows m.columns m.stride m.words.len m.words.items c.args.into c.args.from c.self.invariant c.self.invariant joins (omega (arith, rows)) (omega (arith, rows)) (omega arith)

written : (c : goal.After-self-1) → (with_items c.self.inside.words c.join_within.new.words).items ≡ c.join_within.new.words
written c = with_items_is c.self.inside.words c.join_within.new.words (omega (arith, c.join_within.auto.words, c.deref_mut.ensures.len))

pub invariant_of-self : goal.invariant_of-self
invariant_of-self c =
    let m = c.self.inside in
    subst (λ (ws : List ℕ). IsLaidOut m.rows m.columns m.stride m.words.len ws) (sym (written c)) (joined c).laid

pub returns-clause-bits : goal.returns-clause-bits
returns-clause-bits c = λ row column.
    let m = c.self.inside in
    let now = ap (λ (ws : List ℕ). bit (bits_of m.rows m.columns m.stride ws) row column) (written c) in
    let before = ap (λ (b : Bits). bit b row column) c.self.view_is in
    let other = ap (λ (b : Bits). bit b c.args.from column) c.self.view_is in
    now ∙ (rw (before, other) at ((joined c).bits row column))
