use Rattle.std.proofs.Common.{◌+◌, ◌∙◌, sym, ap, subst, length, arith, ℕ, Bool, List, All}
use Rattle.std.specs.Prelude.{is_some, unwrap_or}
use Rattle.std.proofs.lemmas.List.Elements.{All-push}
use Rattle.etp_closure.specs.Closures.{slot_of}
use Rattle.etp_report.specs.Candidates.{candidate_slot, IsSlot}
use Rattle.etp_report.proofs.Lists.{grows, stays, map-grows, map-stays, few_pass}
use Rattle.etp_report.proofs.Classing.{slot-number}
use Rattle.etp_report.proofs.classes.find_candidates.Goals as goal
use Rattle.etp_report.proofs.classes.find_candidates.Goals.{in-Some+in_ok-push-in-Some+in_ok-push-in-Some-2, in-None}

pub push-requires : goal.push-requires
push-requires c =
    omega (arith, few_pass (λ law. is_some (candidate_slot c.args.closure.now law)) c.loop-place.place, ap length c.loop-place.invariant.laws_so_far, c.loop-place-test.true)

pub loop-place-preserved : goal.loop-place-preserved
loop-place-preserved c =
    let known = c.args.closure.now in
    let passes : ℕ → Bool = λ law. is_some (candidate_slot known law) in
    let slot : ℕ → ℕ = λ law. unwrap_or (slot_of known.slots law) 0 in
    let inside : ℕ → Type 0 = IsSlot known.reached in
    let n = c.loop-place.place in
    let inv = c.loop-place.invariant in
    elim c.match-candidate_slot.branch [
      | in-Some+in_ok-push-in-Some+in_ok-push-in-Some-2 w ↦
          let at = sym w.in-Some.ensures.value in
          let pushed = w.slots-is ∙ w.in_ok-push-in-Some-2.ensures.ok in
          record {
            laws_so_far = grows passes n c.loop-place.laws c.match-candidate_slot.laws inv.laws_so_far (ap is_some at) (w.laws-is ∙ w.in_ok-push-in-Some.ensures.ok);
            slots_so_far = map-grows slot passes n w.in-Some.slot c.loop-place.slots c.match-candidate_slot.slots inv.slots_so_far (ap is_some at) (slot-number known (n + 1) w.in-Some.slot at) pushed;
            in_matrix = subst (λ (xs : List ℕ). All inside xs) (sym pushed) (All-push inside c.loop-place.slots w.in-Some.slot inv.in_matrix w.in-Some.ensures.slot);
          }
      | in-None w ↦
          let at = sym w.in-None.ensures.value in
          record {
            laws_so_far = stays passes n c.loop-place.laws c.match-candidate_slot.laws inv.laws_so_far (ap is_some at) w.laws-is;
            slots_so_far = map-stays slot passes n c.loop-place.slots c.match-candidate_slot.slots inv.slots_so_far (ap is_some at) w.slots-is;
            in_matrix = subst (λ (xs : List ℕ). All inside xs) (sym w.slots-is) inv.in_matrix;
          }
    ]
