use Rattle.std.proofs.Common.{◌≡◌, ◌+◌, ◌*◌, ◌<◌, ◌^◌, length, arith, ap, sym, ◌∙◌}
use Rattle.etp_closure.specs.declared.facts.Answer.TheVariants.{Implied, Refuted, Unsettled}
use Rattle.etp_report.specs.Pairs.{sum_below, laws_answered, pairs_answered}
use Rattle.etp_report.proofs.Sums.{row_implied, row_refuted, rows_whole, implied_fits, refuted_fits, counted, says}
use Rattle.etp_report.proofs.counts.count_answers.Goals as goal

-- at the end all rows are counted
at_end : (c : goal.After-loop-place) → c.loop-place.place ≡ length c.args.closure.now.duals
at_end c = omega (arith, c.size-size.ensures)

pub overflow_add-implied : goal.overflow_add-implied
overflow_add-implied c =
    let known = c.args.closure.now in
    let few : length known.duals < 2 ^ 32 = omega (arith, c.size-size.ensures) in
    let fits = implied_fits known few c.loop-place.place (omega (arith, c.size-size.ensures)) in
    omega (arith, fits, c.loop-place.invariant.implied_so_far, c.row_counts-row.ensures.implied, row_implied known (c.loop-place.place + 1))

pub overflow_add-refuted : goal.overflow_add-refuted
overflow_add-refuted c =
    let known = c.args.closure.now in
    let few : length known.duals < 2 ^ 32 = omega (arith, c.size-size.ensures) in
    let fits = refuted_fits known few c.loop-place.place (omega (arith, c.size-size.ensures)) in
    omega (arith, fits, c.loop-place.invariant.refuted_so_far, c.row_counts-row.ensures.refuted, row_refuted known (c.loop-place.place + 1))

-- the three counts over all rows, by the program's numbers
whole : (c : goal.After-loop-place) → c.loop-place.implied + c.loop-place.refuted + pairs_answered c.args.closure.now Unsettled ≡ c.size-size.result * c.size-size.result
whole c =
    let known = c.args.closure.now in
    let end = at_end c in
    let i = c.loop-place.invariant.implied_so_far ∙ ap (sum_below (λ place. laws_answered known Implied (place + 1))) end in
    let r = c.loop-place.invariant.refuted_so_far ∙ ap (sum_below (λ place. laws_answered known Refuted (place + 1))) end in
    let squares : length known.duals * length known.duals ≡ c.size-size.result * c.size-size.result = ap (λ n. n * n) (sym c.size-size.ensures) in
    omega (arith, i, r, rows_whole known (length known.duals), counted known Unsettled, squares)

pub overflow_sub-result : goal.overflow_sub-result
overflow_sub-result c = omega (arith, whole c)

pub overflow_sub-result-2 : goal.overflow_sub-result-2
overflow_sub-result-2 c = omega (arith, whole c)

pub returns-clause-implied : goal.returns-clause-implied
returns-clause-implied c =
    c.loop-place.invariant.implied_so_far ∙ ap (sum_below (λ place. laws_answered c.args.closure.now Implied (place + 1))) (at_end c) ∙ counted c.args.closure.now Implied

pub returns-clause-refuted : goal.returns-clause-refuted
returns-clause-refuted c =
    c.loop-place.invariant.refuted_so_far ∙ ap (sum_below (λ place. laws_answered c.args.closure.now Refuted (place + 1))) (at_end c) ∙ counted c.args.closure.now Refuted

pub returns-clause-unsettled : goal.returns-clause-unsettled
returns-clause-unsettled c = omega (arith, whole c)

pub returns-clause-says : goal.returns-clause-says
returns-clause-says c = λ facts stands. says c.args.closure.now facts stands
