-- Tables as finite magmas.
use Rattle.std.proofs.Common.{ℕ, ◌+◌, ◌*◌, ◌<◌, ◌≤◌, List, get_or, arith, ltb-true, lt-ltb, mul-le-mul_right}
use Rattle.std.proofs.lemmas.List.Elements.{All-get_or, All-contains}
use Rattle.etp_theory.specs.Trees.{Equation}
use Rattle.etp_theory.specs.Magmas.{IsClosed}
use Rattle.etp_theory.specs.Reach.{refutes}
use Rattle.etp_theory.specs.Tables.{below}
use Rattle.etp_table.specs.Tables.{Table, times, IsTable}
use Rattle.etp_table.specs.Judgements.{LawHolds, LawFails, IsJudged}
use Rattle.etp_table.proofs.Tables.{holds_in, fails_in}
use Rattle.etp_cancel.specs.FiniteMagmas.{IsFiniteMagma}
use Rattle.etp_cancel.specs.FiniteFacts.{IsRightFiniteFact}

closed : (t : Table) → IsTable t → IsClosed (below t.size) (times t)
closed t table x y h k =
    let row : x < t.size = ltb-true x t.size h in
    let column : y < t.size = ltb-true y t.size k in
    let up : (x + 1) * t.size ≤ t.size * t.size = mul-le-mul_right t.size (omega arith) in
    let long = table.square in
    lt-ltb (get_or t.entries (x * t.size + y) 0) t.size (All-get_or (λ z. z < t.size) t.entries (x * t.size + y) 0 (omega (arith, up, long)) table.below)

pub table_finite : (t : Table) → IsTable t → IsFiniteMagma t.size (times t)
table_finite t table = record { some = table.some; closed = closed t table }

pub table_right : (laws : List Equation) (t : Table) (holds fails : List ℕ) → IsTable t → IsJudged laws t holds fails → IsRightFiniteFact laws (refutes holds fails)
table_right laws t holds fails table judged e f i j =
    let holding : LawHolds laws t e = All-contains (LawHolds laws t) holds e judged.holding i in
    let failing : LawFails laws t f = All-contains (LawFails laws t) fails f judged.failing j in
    record {
      holding = holding.law;
      failing = failing.law;
      holding_listed = holding.listed;
      failing_listed = failing.listed;
      apart = record {
        size = t.size;
        times = times t;
        magma = table_finite t table;
        holds = holds_in t holding.law holding.holds;
        fails = λ h. fails_in t failing.law failing.point failing.left failing.right failing.first h;
      };
    }
