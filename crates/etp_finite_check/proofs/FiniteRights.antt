-- What a valid body about finite magmas says is right.
use Rattle.std.proofs.Common.{◌≡◌, ◌⊎◌, inl, inr, List, ap, ◌∙◌, Result, OnOk}
use Rattle.std.proofs.lemmas.Result.{on_ok_weaker}
use Rattle.etp_theory.specs.Trees.{Equation}
use Rattle.etp_laws.specs.LawLists.{LawList}
use Rattle.etp_replay.specs.Validity.{law_at}
use Rattle.etp_replay.proofs.Goals.{listed_law}
use Rattle.etp_items.specs.Bodies.{table, linear, matrix, rules}
use Rattle.etp_cancel.specs.FiniteFacts.{IsRightFiniteFact}
use Rattle.etp_cancel.proofs.Concluding as Concluding
use Rattle.etp_separation.proofs.TableFacts.{table_right}
use Rattle.etp_separation.proofs.LinearFacts.{linear_right}
use Rattle.etp_finite_body.specs.FiniteBodies.{FiniteProofBody}
use Rattle.etp_finite_replay.specs.FiniteValidity.{IsFiniteRefused}
use Rattle.etp_finite_replay.specs.declared.refusal.FiniteReplayRefusal.{FiniteReplayRefusal}
use Rattle.etp_finite_body.specs.FiniteBodies.{FiniteFileBody, proof, model}
use Rattle.etp_finite_check.specs.FiniteChecks.{fact_said, IsListedBody, HasContent, IsRightBody, IsFinitelyValidBody}
use Rattle.etp_finite_check.specs.FiniteRefusals.{replay_refused, IsCheckRefused}
use Rattle.etp_finite_check.specs.declared.refusal.FiniteRefusal.{FiniteRefusal}

pub right_fact : (laws : List Equation) (body : FiniteFileBody) → IsFinitelyValidBody laws body → IsRightFiniteFact laws (fact_said body)
right_fact laws (proof p) valid = record {
  hypothesis = law_at laws p.hypothesis;
  goal = law_at laws p.goal;
  hypothesis_listed = listed_law laws p.hypothesis valid.listed.hypothesis_listed;
  goal_listed = listed_law laws p.goal valid.listed.goal_listed;
  implied = Concluding.proved (law_at laws p.hypothesis) (law_at laws p.goal) p.lemmas valid.right;
}
right_fact laws (model (table size entries) claims) valid =
    table_right laws (record { size = size; entries = entries }) claims.holds claims.fails valid.right.0 valid.right.1
right_fact laws (model (linear l) claims) valid =
    linear_right valid.content.0 l valid.content.1 valid.right.0 laws claims.holds claims.fails valid.right.1
right_fact laws (model (matrix g) claims) valid = absurd valid.content
right_fact laws (model (rules w rs) claims) valid = absurd valid.content

pub is_valid : {T E : Type 0} (r : Result T E) (laws : List Equation) (body : FiniteFileBody) → IsListedBody laws body → HasContent body → OnOk r (IsRightBody laws body) → OnOk r (IsFinitelyValidBody laws body)
is_valid r laws body listed content right =
    on_ok_weaker r (λ right. record { listed = listed; content = content; right = right }) right

pub says_right : {T E : Type 0} (r : Result T E) (laws : List Equation) (body : FiniteFileBody) → IsListedBody laws body → HasContent body → OnOk r (IsRightBody laws body) → OnOk r (IsRightFiniteFact laws (fact_said body))
says_right r laws body listed content right =
    on_ok_weaker r (λ right. right_fact laws body (record { listed = listed; content = content; right = right })) right

pub proof_refused : (l : LawList) (p : FiniteProofBody) (t : FiniteReplayRefusal) (r : FiniteRefusal) → r ≡ replay_refused t → IsFiniteRefused l p t → IsCheckRefused l (proof p) r
proof_refused l p t r e (inl none) = inl (e ∙ ap replay_refused none)
proof_refused l p t r e (inr some) = inr (t, e, some)
