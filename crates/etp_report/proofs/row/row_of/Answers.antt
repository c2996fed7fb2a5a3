use Rattle.std.proofs.Common.{◌≡◌, ◌+◌, ◌∙◌, sym, ap, length, arith, ℕ, Bool}
use Rattle.etp_closure.specs.declared.facts.Answer.{Answer}
use Rattle.etp_closure.specs.declared.facts.Answer.TheVariants.{Implied, Refuted, Unsettled}
use Rattle.etp_closure.specs.Answers.{answer_of}
use Rattle.etp_report.specs.Pairs.{is_same}
use Rattle.etp_report.specs.Reports.{row_with}
use Rattle.etp_report.proofs.Lists.{grows, stays, few_pass}
use Rattle.etp_report.proofs.Sums.{says}
use Rattle.etp_report.proofs.row.row_of.Goals as goal
use Rattle.etp_report.proofs.row.row_of.Goals.{in-Implied+in_ok-push-in-Implied, in-Refuted+in_ok-push-in-Refuted, in-Unsettled}

pub loop-place-preserved : goal.loop-place-preserved
loop-place-preserved c =
    let passes : Answer → ℕ → Bool = λ a f. is_same (answer_of c.args.closure.now c.args.e f) a in
    let n = c.loop-place.place in
    let implied = c.loop-place.invariant.implied_so_far in
    let refuted = c.loop-place.invariant.refuted_so_far in
    let is : (a b : Answer) → b ≡ answer_of c.args.closure.now c.args.e (n + 1) → passes a (n + 1) ≡ is_same b a = λ a b e. ap (λ x. is_same x a) (sym e) in
    elim c.match-answer.branch [
      | in-Implied+in_ok-push-in-Implied w ↦ record {
        implied_so_far = grows (passes Implied) n c.loop-place.implied c.match-answer.implied implied (is Implied Implied w.in-Implied.ensures.value) (w.implied-is ∙ w.in_ok-push-in-Implied.ensures.ok);
        refuted_so_far = stays (passes Refuted) n c.loop-place.refuted c.match-answer.refuted refuted (is Refuted Implied w.in-Implied.ensures.value) w.refuted-is;
      }
      | in-Refuted+in_ok-push-in-Refuted w ↦ record {
        implied_so_far = stays (passes Implied) n c.loop-place.implied c.match-answer.implied implied (is Implied Refuted w.in-Refuted.ensures.value) w.implied-is;
        refuted_so_far = grows (passes Refuted) n c.loop-place.refuted c.match-answer.refuted refuted (is Refuted Refuted w.in-Refuted.ensures.value) (w.refuted-is ∙ w.in_ok-push-in-Refuted.ensures.ok);
      }
      | in-Unsettled w ↦ record {
        implied_so_far = stays (passes Implied) n c.loop-place.implied c.match-answer.implied implied (is Implied Unsettled w.in-Unsettled.ensures.value) w.implied-is;
        refuted_so_far = stays (passes Refuted) n c.loop-place.refuted c.match-answer.refuted refuted (is Refuted Unsettled w.in-Unsettled.ensures.value) w.refuted-is;
      }
    ]

pub push-requires : goal.push-requires
push-requires c =
    omega (arith, few_pass (λ f. is_same (answer_of c.args.closure.now c.args.e f) Implied) c.loop-place.place, ap length c.loop-place.invariant.implied_so_far, c.loop-place-test.true)

pub push-requires-in-Refuted : goal.push-requires-in-Refuted
push-requires-in-Refuted c =
    omega (arith, few_pass (λ f. is_same (answer_of c.args.closure.now c.args.e f) Refuted) c.loop-place.place, ap length c.loop-place.invariant.refuted_so_far, c.loop-place-test.true)

pub returns-clause-implied : goal.returns-clause-implied
returns-clause-implied c =
    c.loop-place.invariant.implied_so_far
    ∙ ap (λ n. row_with (answer_of c.args.closure.now) n Implied c.args.e) (omega (arith, c.loop-place-test.false, c.size-place-end.ensures))

pub returns-clause-refuted : goal.returns-clause-refuted
returns-clause-refuted c =
    c.loop-place.invariant.refuted_so_far
    ∙ ap (λ n. row_with (answer_of c.args.closure.now) n Refuted c.args.e) (omega (arith, c.loop-place-test.false, c.size-place-end.ensures))

pub returns-clause-says : goal.returns-clause-says
returns-clause-says c = λ facts stands. says c.args.closure.now facts stands
