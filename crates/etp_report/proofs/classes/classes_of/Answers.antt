use Rattle.std.proofs.Common.{◌≡◌, ◌∙◌, ap, arith, sym, subst, List, ℕ, length, map}
use Rattle.std.proofs.lemmas.List.{length-map}
use Rattle.std.specs.Prelude.{filter}
use Rattle.etp_closure.specs.Closures.{Known}
use Rattle.etp_closure.specs.Answers.{answer_of}
use Rattle.etp_report.specs.Reports.{laws_to, class_with, is_least, classes_with, IsInOne}
use Rattle.etp_report.proofs.Lists.{map-grows, map-stays, few_pass}
use Rattle.etp_report.proofs.Partition.{each_in_one}
use Rattle.etp_report.proofs.Sums.{says}
use Rattle.etp_report.proofs.classes.classes_of.Goals as goal
use Rattle.etp_report.proofs.classes.classes_of.Goals.{in-Some+in_ok-push-in-Some, in-None}

pub push-requires : goal.push-requires
push-requires c =
    let known = c.args.closure.now in
    let n = length known.duals in
    let heads = filter (is_least (answer_of known) n) (laws_to c.loop-place.place) in
    omega (arith, few_pass (is_least (answer_of known) n) c.loop-place.place, ap length c.loop-place.invariant, length-map heads (class_with (answer_of known) n), c.loop-place-test.true)

pub loop-place-preserved : goal.loop-place-preserved
loop-place-preserved c =
    let known = c.args.closure.now in
    let n = length known.duals in
    let place = c.loop-place.place in
    elim c.match-class.branch [
      | in-Some+in_ok-push-in-Some w ↦
          let found = rw w.in-Some.is at c.in_ok-class.ensures in
          map-grows (class_with (answer_of known) n) (is_least (answer_of known) n) place w.in-Some.class c.loop-place.classes c.match-class.classes c.loop-place.invariant found.0 found.1 (w.classes-is ∙ w.in_ok-push-in-Some.ensures.ok)
      | in-None w ↦
          let found = rw w.in-None.is at c.in_ok-class.ensures in
          map-stays (class_with (answer_of known) n) (is_least (answer_of known) n) place c.loop-place.classes c.match-class.classes c.loop-place.invariant found w.classes-is
    ]

-- all laws are gone through
whole : (known : Known) (place : ℕ) (found : List (List ℕ)) → found ≡ map (class_with (answer_of known) (length known.duals)) (filter (is_least (answer_of known) (length known.duals)) (laws_to place))
    → place ≡ length known.duals → found ≡ classes_with (answer_of known) (length known.duals)
whole known place found so end = so ∙ ap (λ k. map (class_with (answer_of known) (length known.duals)) (filter (is_least (answer_of known) (length known.duals)) (laws_to k))) end

pub returns-clause-classes : goal.returns-clause-classes
returns-clause-classes c = whole c.args.closure.now c.loop-place.place c.loop-place.classes c.loop-place.invariant (omega (arith, c.loop-place-test.false, c.size-place-end.ensures))

pub returns-clause-in_one : goal.returns-clause-in_one
returns-clause-in_one c = λ facts stands law is.
    let all = whole c.args.closure.now c.loop-place.place c.loop-place.classes c.loop-place.invariant (omega (arith, c.loop-place-test.false, c.size-place-end.ensures)) in
    subst (λ (lists : List (List ℕ)). IsInOne lists law) (sym all) (each_in_one c.args.closure.now facts stands law is)

pub returns-clause-says : goal.returns-clause-says
returns-clause-says c = λ facts stands. says c.args.closure.now facts stands
