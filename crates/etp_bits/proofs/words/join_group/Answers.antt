use Rattle.std.proofs.Common.{arith, ◌+◌, ◌*◌, ◌/◌, ◌&&◌, nat_lt, length}
use Rattle.std.specs.Int.{w64, trailing_zeros}
use Rattle.etp_bits.specs.Words.{lit}
use Rattle.etp_bits.proofs.Joins.{takes_lowest, within_more, group_more, group_none, group_all, joins_row}
use Rattle.etp_bits.proofs.words.join_group.Goals as goal

pub overflow_mul-row-in-loop-left : goal.overflow_mul-row-in-loop-left
overflow_mul-row-in-loop-left c =
    let low = takes_lowest c.loop-left.left c.loop-left-test.true (omega (arith, c.loop-left.auto.left-fits)) in
    let inside = c.requires.rows_in (trailing_zeros w64 c.loop-left.left) (c.loop-left.invariant.within (trailing_zeros w64 c.loop-left.left) low.was_on) in
    omega (arith, inside)

pub join_words-requires-clause-into_fits : goal.join_words-requires-clause-into_fits
join_words-requires-clause-into_fits c =
    let low = takes_lowest c.loop-left.left c.loop-left-test.true (omega (arith, c.loop-left.auto.left-fits)) in
    let inside = c.requires.rows_in (trailing_zeros w64 c.loop-left.left) (c.loop-left.invariant.within (trailing_zeros w64 c.loop-left.left) low.was_on) in
    omega (arith, inside, c.requires.narrow, c.loop-left.auto.words)

pub loop-left-init : goal.loop-left-init
loop-left-init c = record {
  within = λ i on. on;
  joined = group_none c.args.words.now c.args.stride c.args.rows c.args.group (λ column. nat_lt (column / 64) (length c.args.line.now) && lit c.args.line.now 0 column);
}

pub loop-left-smaller : goal.loop-left-smaller
loop-left-smaller c = (takes_lowest c.loop-left.left c.loop-left-test.true (omega (arith, c.loop-left.auto.left-fits))).smaller

pub loop-left-preserved : goal.loop-left-preserved
loop-left-preserved c =
    let left = c.loop-left.left in
    let low = takes_lowest left c.loop-left-test.true (omega (arith, c.loop-left.auto.left-fits)) in
    let bit = trailing_zeros w64 left in
    record {
      within = within_more c.args.rows left bit _ c.loop-left.invariant.within low;
      joined =
          group_more c.args.words.now c.loop-left.words _ c.args.stride c.args.rows left bit _ c.args.group
          (λ column. nat_lt (column / 64) (length c.args.line.now) && lit c.args.line.now 0 column) c.loop-left.invariant.within low c.loop-left.invariant.joined
          (joins_row c.loop-left.words c.join_words.new.words c.args.line.now c.args.stride (64 * c.args.group + bit) 0 (length c.args.line.now) c.join_words.ensures c.requires.narrow c.join_words.auto.words);
    }

pub returns : goal.returns
returns c =
    group_all c.args.words.now c.loop-left.words c.args.stride c.args.rows c.loop-left.left c.args.group
    (λ column. nat_lt (column / 64) (length c.args.line.now) && lit c.args.line.now 0 column) c.loop-left-test.false c.loop-left.invariant.joined
