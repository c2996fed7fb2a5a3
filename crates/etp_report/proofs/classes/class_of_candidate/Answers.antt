use Rattle.std.proofs.Common.{◌≡◌, ◌<◌, ◌++◌, ◌∷◌, [], ◌∙◌, sym, ap, length, get_or, arith, false, true, nat_lt, ℕ, List}
use Rattle.std.specs.List.{list_any}
use Rattle.etp_closure.specs.Answers.{answer_of}
use Rattle.etp_report.specs.Reports.{are_equivalent}
use Rattle.etp_report.proofs.Classing.{candidate-test, smaller-found, class-grows, class-stays, class-whole, none-more, candidates-few}
use Rattle.etp_report.proofs.classes.class_of_candidate.Goals as goal
use Rattle.etp_report.proofs.classes.class_of_candidate.Goals.{then-reach_each_other+else-laws-place+in_ok-push, else-reach_each_other}

pub push-requires : goal.push-requires
push-requires c =
    let laws = c.args.candidates.now.laws in
    let within : c.loop-place.place < length laws = omega (arith, c.loop-place-test.true, ap length c.as_slice-laws.ensures) in
    let few = candidates-few c.args.closure.now laws c.requires.found.listed (are_equivalent (answer_of c.args.closure.now) c.args.e) c.loop-place.place within in
    omega (arith, few, ap length c.loop-place.invariant.class_so_far, c.requires.few)

pub loop-place-preserved : goal.loop-place-preserved
loop-place-preserved c =
    let known = c.args.closure.now in
    let laws = c.args.candidates.now.laws in
    let e = c.args.e in
    let i = c.loop-place.place in
    let passes = are_equivalent (answer_of known) e in
    let inv = c.loop-place.invariant in
    let within : i < length laws = omega (arith, c.loop-place-test.true, ap length c.as_slice-laws.ensures) in
    let test = candidate-test known e c.args.slot c.requires.slot_of_e laws c.args.candidates.now.slots c.requires.found c.reached-reached.result.now c.reached-reached.ensures c.as_slice-slots.result.now c.as_slice-slots.ensures i within in
    let law : get_or c.as_slice-laws.result.now i 0 ≡ get_or laws i 0 = ap (λ (xs : List ℕ). get_or xs i 0) c.as_slice-laws.ensures in
    elim c.if-reach_each_other.branch [
      | then-reach_each_other+else-laws-place+in_ok-push w ↦
          let on : passes (get_or laws i 0) ≡ true = test ∙ sym c.reach_each_other.ensures ∙ w.if-reach_each_other.true in
          let more : c.if-reach_each_other.class ≡ c.loop-place.class ++ get_or laws i 0 ∷ [] = w.class-is ∙ w.in_ok-push.ensures.ok ∙ ap (λ x. c.loop-place.class ++ x ∷ []) law in
          record {
            class_so_far = class-grows passes laws i c.loop-place.class c.if-reach_each_other.class within inv.class_so_far on more;
            none_smaller = none-more e (get_or laws i 0) c.loop-place.class c.if-reach_each_other.class inv.none_smaller (omega (arith, w.if-laws-place.false, law)) more;
          }
      | else-reach_each_other w ↦
          let off : passes (get_or laws i 0) ≡ false = test ∙ sym c.reach_each_other.ensures ∙ w.if-reach_each_other.false in
          record {
            class_so_far = class-stays passes laws i c.loop-place.class c.if-reach_each_other.class within inv.class_so_far off w.class-is;
            none_smaller = ap (list_any (λ f. nat_lt f e)) w.class-is ∙ inv.none_smaller;
          }
    ]

pub returns-then-laws-place : goal.returns-then-laws-place
returns-then-laws-place c =
    let known = c.args.closure.now in
    let laws = c.args.candidates.now.laws in
    let i = c.loop-place.place in
    let within : i < length laws = omega (arith, c.loop-place-test.true, ap length c.as_slice-laws.ensures) in
    let test = candidate-test known c.args.e c.args.slot c.requires.slot_of_e laws c.args.candidates.now.slots c.requires.found c.reached-reached.result.now c.reached-reached.ensures c.as_slice-slots.result.now c.as_slice-slots.ensures i within in
    let law : get_or c.as_slice-laws.result.now i 0 ≡ get_or laws i 0 = ap (λ (xs : List ℕ). get_or xs i 0) c.as_slice-laws.ensures in
    smaller-found known c.args.e c.args.slot c.requires.e_in c.requires.slot_of_e laws c.requires.found.listed i within
    (test ∙ sym c.reach_each_other.ensures ∙ c.if-reach_each_other.true) (omega (arith, c.if-laws-place.true, law))

pub returns : goal.returns
returns c =
    let laws = c.args.candidates.now.laws in
    class-whole c.args.closure.now c.args.e c.args.slot c.requires.e_in c.requires.slot_of_e laws c.requires.found.listed c.loop-place.place
    (omega (arith, c.loop-place-test.false, ap length c.as_slice-laws.ensures)) c.loop-place.class c.loop-place.invariant.class_so_far c.loop-place.invariant.none_smaller
