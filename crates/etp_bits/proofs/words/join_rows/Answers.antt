use Rattle.std.proofs.Common.{arith, ◌+◌, ◌*◌, ◌/◌, ◌<◌, ◌^◌, ◌&&◌, nat_lt, length, slice_index, inl, inr}
use Rattle.std.proofs.lemmas.Nat.Bits.{bit_at_above}
use Rattle.std.proofs.lemmas.Bool.{cases_lt}
use Rattle.etp_bits.specs.Words.{lit}
use Rattle.etp_bits.proofs.Joins.{marked_row, groups_more, groups_none}
use Rattle.etp_bits.proofs.words.join_rows.Goals as goal

pub join_group-requires-clause-rows_in : goal.join_group-requires-clause-rows_in
join_group-requires-clause-rows_in c = λ i on.
    let group = c.loop-group.group in
    let small : slice_index c.args.marks.now group < 2 ^ 64 = omega (arith, c.type_inv.marks group) in
    elim (cases_lt i 64) [
      | inl below ↦
          let row = c.requires.rows_in (64 * group + i) (omega (arith, below, c.loop-group-test.true)) (marked_row c.args.marks.now group i on below) in
          omega (arith, row, c.loop-group.invariant.same_size)
      | inr past ↦ absurd (omega (arith, on, bit_at_above (slice_index c.args.marks.now group) 64 i small past))
    ]

pub loop-group-init : goal.loop-group-init
loop-group-init c = groups_none c.args.words.now c.args.marks.now c.args.stride (λ column. nat_lt (column / 64) (length c.args.line.now) && lit c.args.line.now 0 column)

pub loop-group-preserved : goal.loop-group-preserved
loop-group-preserved c =
    groups_more c.args.words.now c.loop-group.words c.join_group.new.words c.args.marks.now c.args.stride c.loop-group.group (λ column. nat_lt (column / 64) (length c.args.line.now) && lit c.args.line.now 0 column)
    c.loop-group.invariant c.join_group.ensures
