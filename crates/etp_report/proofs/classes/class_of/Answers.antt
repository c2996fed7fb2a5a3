use Rattle.std.proofs.Common.{◌∙◌, sym, ap, length, arith}
use Rattle.etp_closure.specs.Answers.{answer_of}
use Rattle.etp_report.specs.Reports.{are_equivalent, class_with}
use Rattle.etp_report.proofs.Lists.{grows, stays, few_pass}
use Rattle.etp_report.proofs.Sums.{says}
use Rattle.etp_report.proofs.classes.class_of.Goals as goal
use Rattle.etp_report.proofs.classes.class_of.Goals.{then-are_equivalent+in_ok-push, else-are_equivalent}

pub loop-place-preserved : goal.loop-place-preserved
loop-place-preserved c =
    let passes = are_equivalent (answer_of c.args.closure.now) c.args.e in
    let n = c.loop-place.place in
    elim c.if-are_equivalent.branch [
      | then-are_equivalent+in_ok-push w ↦
          grows passes n c.loop-place.class c.if-are_equivalent.class c.loop-place.invariant (sym c.are_equivalent.ensures ∙ w.if-are_equivalent.true) (w.class-is ∙ w.in_ok-push.ensures.ok)
      | else-are_equivalent w ↦
          stays passes n c.loop-place.class c.if-are_equivalent.class c.loop-place.invariant (sym c.are_equivalent.ensures ∙ w.if-are_equivalent.false) w.class-is
    ]

pub push-requires : goal.push-requires
push-requires c =
    omega (arith, few_pass (are_equivalent (answer_of c.args.closure.now) c.args.e) c.loop-place.place, ap length c.loop-place.invariant, c.loop-place-test.true)

pub returns-clause-class : goal.returns-clause-class
returns-clause-class c =
    c.loop-place.invariant ∙ ap (λ n. class_with (answer_of c.args.closure.now) n c.args.e) (omega (arith, c.loop-place-test.false, c.size-place-end.ensures))

pub returns-clause-says : goal.returns-clause-says
returns-clause-says c = λ facts stands. says c.args.closure.now facts stands
