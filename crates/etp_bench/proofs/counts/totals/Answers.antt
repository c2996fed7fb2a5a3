use Rattle.std.proofs.Common.{arith, length}
use Rattle.etp_closure.specs.Closures.{is_reached, is_covered}
use Rattle.etp_bench.proofs.Pairs.{counted_more, counted_all}
use Rattle.etp_bench.proofs.counts.totals.Goals as goal

pub overflow_add-implied : goal.overflow_add-implied
overflow_add-implied c =
    let more = counted_more (is_reached c.args.closure.now) (is_covered c.args.closure.now) (length c.args.closure.now.duals) c.loop-place.place c.loop-place.implied c.loop-place.refuted c.row_counts-counts.result.implied c.row_counts-counts.result.refuted
    (omega (arith, c.size-place-end.ensures, c.size-place-end.type_inv)) (omega (arith, c.loop-place-test.true, c.size-place-end.ensures)) c.loop-place.invariant.implied c.loop-place.invariant.refuted c.row_counts-counts.ensures.implied c.row_counts-counts.ensures.refuted in
    omega (arith, more.fits)

pub overflow_add-refuted : goal.overflow_add-refuted
overflow_add-refuted c =
    let more = counted_more (is_reached c.args.closure.now) (is_covered c.args.closure.now) (length c.args.closure.now.duals) c.loop-place.place c.loop-place.implied c.loop-place.refuted c.row_counts-counts.result.implied c.row_counts-counts.result.refuted
    (omega (arith, c.size-place-end.ensures, c.size-place-end.type_inv)) (omega (arith, c.loop-place-test.true, c.size-place-end.ensures)) c.loop-place.invariant.implied c.loop-place.invariant.refuted c.row_counts-counts.ensures.implied c.row_counts-counts.ensures.refuted in
    omega (arith, more.fits)

pub overflow_sub-result : goal.overflow_sub-result
overflow_sub-result c =
    let all = counted_all (is_reached c.args.closure.now) (is_covered c.args.closure.now) (length c.args.closure.now.duals) c.loop-place.place c.loop-place.implied c.loop-place.refuted (omega (arith, c.loop-place-test.false, c.loop-place.auto.place-end, c.size-place-end.ensures)) c.loop-place.invariant.implied c.loop-place.invariant.refuted in
    rw (c.size.ensures, c.size-2.ensures) (omega (arith, all))

pub overflow_sub-result-2 : goal.overflow_sub-result-2
overflow_sub-result-2 c =
    let all = counted_all (is_reached c.args.closure.now) (is_covered c.args.closure.now) (length c.args.closure.now.duals) c.loop-place.place c.loop-place.implied c.loop-place.refuted (omega (arith, c.loop-place-test.false, c.loop-place.auto.place-end, c.size-place-end.ensures)) c.loop-place.invariant.implied c.loop-place.invariant.refuted in
    rw (c.size.ensures, c.size-2.ensures) (omega (arith, all))

pub loop-place-preserved : goal.loop-place-preserved
loop-place-preserved c =
    let more = counted_more (is_reached c.args.closure.now) (is_covered c.args.closure.now) (length c.args.closure.now.duals) c.loop-place.place c.loop-place.implied c.loop-place.refuted c.row_counts-counts.result.implied c.row_counts-counts.result.refuted
    (omega (arith, c.size-place-end.ensures, c.size-place-end.type_inv)) (omega (arith, c.loop-place-test.true, c.size-place-end.ensures)) c.loop-place.invariant.implied c.loop-place.invariant.refuted c.row_counts-counts.ensures.implied c.row_counts-counts.ensures.refuted in
    record { implied = more.first; refuted = more.second }

pub returns-clause-all : goal.returns-clause-all
returns-clause-all c =
    let all = counted_all (is_reached c.args.closure.now) (is_covered c.args.closure.now) (length c.args.closure.now.duals) c.loop-place.place c.loop-place.implied c.loop-place.refuted (omega (arith, c.loop-place-test.false, c.loop-place.auto.place-end, c.size-place-end.ensures)) c.loop-place.invariant.implied c.loop-place.invariant.refuted in
    rw (c.size.ensures, c.size-2.ensures) (omega (arith, all))
