use Rattle.std.proofs.Common.{arith, ◌+◌, ◌*◌, ◌/◌, ◌%◌, ◌≤◌, ◌^◌, ◌&&◌, nat_eq, length, bit_and}
use Rattle.std.specs.Int.{bit_at, bit_not, w64, trailing_zeros}
use Rattle.etp_bits.proofs.Joins.{TakesLowest, takes_lowest, within_more, group_more, group_none, group_all, joins_word}
use Rattle.etp_bits.proofs.words.join_place.Goals as goal

-- the lowest bit that is left is taken
lowest : (c : goal.In-loop-left) → TakesLowest c.loop-left.left (trailing_zeros w64 c.loop-left.left) (bit_and c.loop-left.left (bit_not w64 (1 * 2 ^ trailing_zeros w64 c.loop-left.left % 2 ^ 64)))
lowest c = takes_lowest c.loop-left.left c.loop-left-test.true (omega (arith, c.loop-left.auto.left-fits))

fits : (c : goal.In-loop-left) → (64 * c.args.group + trailing_zeros w64 c.loop-left.left) * c.args.stride + c.args.stride ≤ length c.args.words.now
fits c = c.requires.rows_in (trailing_zeros w64 c.loop-left.left) (c.loop-left.invariant.within (trailing_zeros w64 c.loop-left.left) (lowest c).was_on)

pub overflow_mul-words : goal.overflow_mul-words
overflow_mul-words c = omega (arith, fits c, c.requires.within)

pub overflow_add-words : goal.overflow_add-words
overflow_add-words c = omega (arith, fits c, c.requires.within)

pub offset_bounds-words-row : goal.offset_bounds-words-row
offset_bounds-words-row c = omega (arith, fits c, c.requires.within)

pub bounds-words-row : goal.bounds-words-row
bounds-words-row c =
    let low = takes_lowest c.loop-left.left c.loop-left-test.true (omega (arith, c.loop-left.auto.left-fits)) in
    let inside = c.requires.rows_in (trailing_zeros w64 c.loop-left.left) (c.loop-left.invariant.within (trailing_zeros w64 c.loop-left.left) low.was_on) in
    omega (arith, inside, c.requires.within, c.loop-left.auto.words)

pub bounds-words-row-in-loop-left : goal.bounds-words-row-in-loop-left
bounds-words-row-in-loop-left c =
    let low = takes_lowest c.loop-left.left c.loop-left-test.true (omega (arith, c.loop-left.auto.left-fits)) in
    let inside = c.requires.rows_in (trailing_zeros w64 c.loop-left.left) (c.loop-left.invariant.within (trailing_zeros w64 c.loop-left.left) low.was_on) in
    omega (arith, inside, c.requires.within, c.loop-left.auto.words)

pub loop-left-init : goal.loop-left-init
loop-left-init c = record {
  within = λ i on. on;
  joined = group_none c.args.words.now c.args.stride c.args.rows c.args.group (λ column. nat_eq (column / 64) c.args.place && nat_eq (bit_at c.args.word (column % 64)) 1);
}

pub loop-left-smaller : goal.loop-left-smaller
loop-left-smaller c = (takes_lowest c.loop-left.left c.loop-left-test.true (omega (arith, c.loop-left.auto.left-fits))).smaller

pub loop-left-preserved : goal.loop-left-preserved
loop-left-preserved c =
    let left = c.loop-left.left in
    let low = takes_lowest left c.loop-left-test.true (omega (arith, c.loop-left.auto.left-fits)) in
    let bit = trailing_zeros w64 left in
    let inside = c.requires.rows_in bit (c.loop-left.invariant.within bit low.was_on) in
    record {
      within = within_more c.args.rows left bit _ c.loop-left.invariant.within low;
      joined =
          group_more c.args.words.now c.loop-left.words _ c.args.stride c.args.rows left bit _ c.args.group
          (λ column. nat_eq (column / 64) c.args.place && nat_eq (bit_at c.args.word (column % 64)) 1) c.loop-left.invariant.within low c.loop-left.invariant.joined
          (joins_word c.loop-left.words c.args.stride (64 * c.args.group + bit) c.args.place c.args.word c.requires.within (omega (arith, inside, c.requires.within, c.loop-left.auto.words)));
    }

pub returns : goal.returns
returns c =
    group_all c.args.words.now c.loop-left.words c.args.stride c.args.rows c.loop-left.left c.args.group
    (λ column. nat_eq (column / 64) c.args.place && nat_eq (bit_at c.args.word (column % 64)) 1) c.loop-left-test.false c.loop-left.invariant.joined
