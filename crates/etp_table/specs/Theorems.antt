-- What the definitions of verdicts and judgements say, and small tables at which they are computed.
use Rattle.std.specs.Prelude.{◌≡◌, ◌+◌, ◌≤◌, ℕ, List, [], ◌∷◌}
use Rattle.etp_theory.specs.Trees.{Equation, var, op}
use Rattle.etp_theory.specs.Magmas.{meaning}
use Rattle.etp_theory.specs.Tables.{assigned, place_of}
use Rattle.etp_table.specs.Tables.{Table, times, IsTable}
use Rattle.etp_table.specs.Points.{values_of}
use Rattle.etp_table.specs.Entries.{IsFirstWrong}
use Rattle.etp_table.specs.Verdicts.{limit, AgreesBefore, IsFirstFailure}
use Rattle.etp_table.specs.Judgements.{IsJudged, IsFirstOffence}
use Rattle.etp_table.specs.declared.point.Point.{Point}
use Rattle.etp_table.specs.declared.refusal.TableRefusal.{TableRefusal}

pub record VerdictTheorems : Type 0 where
  -- a law has one first failing assignment at most
  pub one_failure : (t : Table) (e : Equation) (p q : Point) (l r l' r' : ℕ)
      → IsFirstFailure t e p l r → IsFirstFailure t e q l' r'
      → (p ≡ q) × (l ≡ l') × (r ≡ r')
  -- and none where those that are looked at agree
  pub agrees_or_fails : (t : Table) (e : Equation) (p : Point) (l r : ℕ)
      → AgreesBefore t e limit → IsFirstFailure t e p l r → ⊥
  -- entries have one first wrong one at most
  pub one_wrong_entry : (n : ℕ) (entries : List ℕ) (r s : TableRefusal)
      → 1 ≤ n → IsFirstWrong n entries r → IsFirstWrong n entries s → r ≡ s
  -- and none where they are a table
  pub entries_or_wrong : (t : Table) (r : TableRefusal) → IsTable t → ¬ IsFirstWrong t.size t.entries r
  -- laws have one first offence at most
  pub one_offence : (laws : List Equation) (t : Table) (holds fails : List ℕ) (r s : TableRefusal)
      → IsFirstOffence laws t holds fails r → IsFirstOffence laws t holds fails s → r ≡ s
  -- and none where they are as they are to be
  pub judged_or_refused : (laws : List Equation) (t : Table) (holds fails : List ℕ) (r : TableRefusal)
      → IsJudged laws t holds fails → IsFirstOffence laws t holds fails r → ⊥

-- the table with the rows `0 0` and `1 1`
abbrev pub left_projection : Table
left_projection = record { size = 2; entries = 0 ∷ 0 ∷ 1 ∷ 1 ∷ [] }

-- x ◇ y = y ◇ x
abbrev pub commutativity : Equation
commutativity = record { left = op (var 0) (var 1); right = op (var 1) (var 0) }

-- x = 0, y = 1
abbrev pub second_point : Point
second_point = record { values = 0 ∷ 1 ∷ 0 ∷ 0 ∷ 0 ∷ 0 ∷ 0 ∷ 0 ∷ []; variables = 2 }

pub record TableExamples : Type 0 where
  -- the first operand is the row
  pub row : times left_projection 0 1 ≡ 0
  pub column : times left_projection 1 0 ≡ 1
  -- variable 0 runs slowest
  pub second : place_of 3 (values_of second_point) ≡ 1
  pub value : meaning (times left_projection) (assigned (1 ∷ 0 ∷ [])) (op (var 0) (var 1)) ≡ 1
  pub looked_at : limit ≡ 16777215 + 1
  pub first : IsFirstFailure left_projection commutativity second_point 0 1
