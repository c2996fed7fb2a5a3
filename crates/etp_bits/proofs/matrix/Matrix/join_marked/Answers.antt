use Rattle.std.proofs.Common.{◌≡◌, ◌∙◌, ◌&&◌, ap, sym, subst, arith, List, ℕ}
use Rattle.std.specs.Vec.{with_items}
use Rattle.std.proofs.lemmas.List.{with_items_is}
use Rattle.etp_bits.specs.Bits.{Bits, bit}
use Rattle.etp_bits.specs.Words.{IsLaidOut, bits_of}
use Rattle.etp_bits.proofs.Joins.{BitsJoined, marked_joined, marked_fits}
use Rattle.etp_bits.proofs.matrix.Matrix.join_marked.Goals as goal

pub join_to_rows-requires-clause-rows_in : goal.join_to_rows-requires-clause-rows_in
join_to_rows-requires-clause-rows_in c = λ row within on.
    let m = c.self.inside in
    let rows = ap (λ (b : Bits). b.rows) c.self.view_is in
    omega (arith, c.deref_mut.ensures.len, marked_fits m.rows m.columns m.stride m.words.len m.words.items c.row.result.now c.args.other.now c.args.marked row c.self.invariant c.row.ensures.bits c.row.ensures.within (omega (arith, rows, c.requires.tall)) within on)

joined : (c : goal.After-self-1)
    → BitsJoined c.self.inside.rows c.self.inside.columns c.self.inside.stride c.self.inside.words.len c.self.inside.words.items c.join_to_rows.new.words (λ r k. bit c.args.other.now c.args.marked r && bit c.args.other.now c.args.line k)
joined c =
    let m = c.self.inside in
    let rows = ap (λ (b : Bits). b.rows) c.self.view_is in
    let columns = ap (λ (b : Bits). b.columns) c.self.view_is in
    let joins = rw c.deref_mut.ensures.value at c.join_to_rows.ensures in
    marked_joined m.rows m.columns m.stride m.words.len m.words.items c.join_to_rows.new.words c.row.result.now c.row-2.result.now c.args.other.now c.args.marked c.args.line c.self.invariant joins
    c.row.ensures.bits c.row-2.ensures.bits c.row.ensures.within c.row-2.ensures.within (omega (arith, rows, c.requires.tall)) (omega (arith, columns, c.requires.narrow))

written : (c : goal.After-self-1) → (with_items c.self.inside.words c.join_to_rows.new.words).items ≡ c.join_to_rows.new.words
written c = with_items_is c.self.inside.words c.join_to_rows.new.words (omega (arith, c.join_to_rows.auto.words, c.deref_mut.ensures.len))

pub invariant_of-self : goal.invariant_of-self
invariant_of-self c =
    let m = c.self.inside in
    subst (λ (ws : List ℕ). IsLaidOut m.rows m.columns m.stride m.words.len ws) (sym (written c)) (joined c).laid

pub returns-clause-bits : goal.returns-clause-bits
returns-clause-bits c = λ row column.
    let m = c.self.inside in
    let now = ap (λ (ws : List ℕ). bit (bits_of m.rows m.columns m.stride ws) row column) (written c) in
    let before = ap (λ (b : Bits). bit b row column) c.self.view_is in
    now ∙ (rw before at ((joined c).bits row column))
