-- What the first failing assignment says of a law in a table, and of laws that are derived.
use Rattle.std.proofs.Common.{ℕ, ◌+◌, ◌*◌, ◌<◌, ◌≤◌, List, get_or, sym, ◌∙◌, arith, ltb-true, lt-ltb, mul-le-mul_right}
use Rattle.std.proofs.lemmas.List.Elements.{All-get_or, All-contains}
use Rattle.etp_theory.specs.Trees.{Tree, var, op, bound, Equation, law_ops}
use Rattle.etp_theory.specs.Magmas.{IsClosed}
use Rattle.etp_theory.specs.Sound.{sound}
use Rattle.etp_theory.specs.Reach.{refutes}
use Rattle.etp_theory.specs.RightFacts.{IsRightFact}
use Rattle.etp_theory.specs.Tables.{below, HoldsInLists}
use Rattle.etp_theory.proofs.Tables.{holds_of_lists, lists_of_holds, place_below}
use Rattle.etp_laws.specs.Listing.{Listed}
use Rattle.etp_laws.proofs.Variables.{bound-few}
use Rattle.etp_table.specs.Tables.{Table, times, IsTable}
use Rattle.etp_table.specs.Points.{values_of}
use Rattle.etp_table.specs.Verdicts.{variables, assignments, limit, AgreesBefore, IsFirstFailure, IsVerdict, HoldsIn, Tells}
use Rattle.etp_table.specs.Judgements.{LawHolds, LawFails, IsJudged}
use Rattle.etp_table.specs.declared.point.Point.{Point}
use Rattle.etp_table.specs.declared.point.Verdict.{Verdict}
use Rattle.etp_table.specs.declared.point.Verdict.TheVariants.{Holds, Fails}

pub few_variables : (e : Equation) → Listed e → law_ops e ≤ 5 → variables e ≤ 7
few_variables e listed small = let few : variables e ≤ law_ops e + 2 = bound-few e listed in omega arith

bound_some : (t : Tree) → 0 < bound t
bound_some (var v) = omega arith
bound_some (op l r) = let some = bound_some l in omega arith

pub some_variables : (e : Equation) → 0 < variables e
some_variables e = let some = bound_some e.left in omega arith

left_bound : (e : Equation) → bound e.left ≤ variables e
left_bound e = omega arith

right_bound : (e : Equation) → bound e.right ≤ variables e
right_bound e = omega arith

pub holds_in_lists : (t : Table) (e : Equation) → AgreesBefore t e limit → assignments t e ≤ limit → HoldsInLists (variables e) t.size (times t) e
holds_in_lists t e agree few xs a = agree xs a (let low = place_below (variables e) t.size xs a in omega arith)

pub holds_in : (t : Table) (e : Equation) → HoldsInLists (variables e) t.size (times t) e → HoldsIn t e
holds_in t e h = holds_of_lists (variables e) t.size (times t) e (left_bound e) (right_bound e) h

pub fails_in : (t : Table) (e : Equation) (point : Point) (left right : ℕ) → IsFirstFailure t e point left right → HoldsIn t e → ⊥
fails_in t e point left right f h =
    f.differ (f.left_is ∙ lists_of_holds (variables e) t.size (times t) e (some_variables e) (left_bound e) (right_bound e) h (values_of point) f.assignment ∙ sym f.right_is)

pub tells : (t : Table) (e : Equation) (verdict : Verdict) → IsVerdict t e verdict → Tells t e verdict
tells t e (Holds looked_at) v = λ few. holds_in t e (holds_in_lists t e v.1 few)
tells t e (Fails point left right) v = λ h. fails_in t e point left right v h

-- the operation of a table stays below the size
closed : (t : Table) → IsTable t → IsClosed (below t.size) (times t)
closed t table x y h k =
    let row : x < t.size = ltb-true x t.size h in
    let column : y < t.size = ltb-true y t.size k in
    let up : (x + 1) * t.size ≤ t.size * t.size = mul-le-mul_right t.size (omega arith) in
    let long = table.square in
    lt-ltb (get_or t.entries (x * t.size + y) 0) t.size (All-get_or (λ z. z < t.size) t.entries (x * t.size + y) 0 (omega (arith, up, long)) table.below)

-- no law that holds derives one that fails
pub right_fact : (laws : List Equation) (t : Table) (holds fails : List ℕ) → IsTable t → IsJudged laws t holds fails → IsRightFact laws (refutes holds fails)
right_fact laws t holds fails table judged e f in_holds in_fails =
    let holding : LawHolds laws t e = All-contains (LawHolds laws t) holds e judged.holding in_holds in
    let failing : LawFails laws t f = All-contains (LawFails laws t) fails f judged.failing in_fails in
    let held : HoldsIn t holding.law = holds_in t holding.law holding.holds in
    record {
      holding = holding.law;
      failing = failing.law;
      holding_listed = holding.listed;
      failing_listed = failing.listed;
      apart = λ derived. fails_in t failing.law failing.point failing.left failing.right failing.first (sound (below t.size) (times t) (closed t table) holding.law held derived);
    }
