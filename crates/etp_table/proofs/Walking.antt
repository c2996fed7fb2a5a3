-- The walk over all assignments, row by row.
use Rattle.std.proofs.Common.{◌≡◌, ◌+◌, ◌-◌, ◌*◌, ◌^◌, ◌<◌, ◌≤◌, inl, inr, ℕ, zero, suc, Bool, true, false, List, [], ◌∷◌, ◌++◌, length, get_or, take, drop, set, replicate, length-set, refl, sym, ap, ◌∙◌, subst, arith, min, length-append, length-drop}
use Rattle.std.proofs.Math.Seq.{get_or-append_seam, take-append_seam, take-length}
use Rattle.std.proofs.Math.Nat.{pow-suc, lt_of_mul-lt-mul_right, zero-mul}
use Rattle.std.proofs.lemmas.Bool.{cases_lt, cases_eq}
use Rattle.std.proofs.lemmas.List.{length-take, length-take-le, get_or_append_left, get_or-append_right, get_or-drop, get_or-take, take_more_set, length-replicate}
use Rattle.etp_theory.specs.Trees.{Equation}
use Rattle.etp_theory.specs.Magmas.{meaning}
use Rattle.etp_theory.specs.Tables.{IsAssignment, assigned, place_of}
use Rattle.etp_theory.proofs.Tables.{place_below}
use Rattle.etp_table.specs.Tables.{Table, times}
use Rattle.etp_table.specs.Points.{values_of, IsPadded}
use Rattle.etp_table.specs.Verdicts.{variables, assignments, limit, AgreesAt, AgreesBefore, IsFirstFailure}
use Rattle.etp_table.specs.Compiled.{law_of, IsCompiled, AreValues, SameBelow, assignment_at, IsFirstInRow}
use Rattle.etp_table.specs.Digits.{AreDigits}
use Rattle.etp_table.specs.declared.point.Point.{Point}
use Rattle.etp_table.specs.declared.compiled.CompiledLaw.{CompiledLaw}
use Rattle.etp_table.proofs.Lists.{take_same}
use Rattle.etp_table.proofs.Places.{place_of-snoc, one_assignment, place_of-zeros}

-- the assignments before `passed` agree, and `values` is the next one, of which the last value is not
-- looked at
pub record Walked (t : Table) (e : Equation) (last : ℕ) (values registers : List ℕ) (passed all : ℕ) : Type 0 where
  pub values_long : length values ≡ last + 1
  pub long : length registers ≡ 18
  pub digits : AreDigits t.size values
  pub below : AreValues t registers
  pub agree : AgreesBefore t e passed
  pub within : passed ≤ all
  pub place : passed < all → place_of t.size (take last values) * t.size ≡ passed

-- registers and a value make an assignment
pub assignment_of : (t : Table) (last value : ℕ) (registers : List ℕ) → last ≤ 6 → 18 ≤ length registers → AreValues t registers → value < t.size → IsAssignment (last + 1) t.size (assignment_at last registers value)
assignment_of t last value registers few long values small =
    let front : length (take last registers) ≡ last = length-take-le last registers (omega arith) in
    record {
      count = omega (arith, length-append (take last registers) (value ∷ []), front);
      each = λ i h. elim (cases_eq i last) [
        | inl e ↦ subst (λ z. z < t.size) (sym (ap (λ j. get_or (take last registers ++ value ∷ []) j 0) (e ∙ sym front) ∙ get_or-append_seam (take last registers) value [] 0)) small
        | inr e ↦ subst (λ z. z < t.size) (sym (get_or_append_left (take last registers) (value ∷ []) 0 i (omega (arith, front)) ∙ get_or-take last registers i 0 (omega arith))) (values i (omega arith))
      ];
    }

module _ (t : Table) (e : Equation) (last passed count : ℕ) (registers : List ℕ) (variables_are : variables e ≡ last + 1) (few : last ≤ 6) (long : 18 ≤ length registers) (values : AreValues t registers) (small : count ≤ t.size) (place : place_of t.size (take last registers) * t.size ≡ passed) (agree : AgreesBefore t e passed) where
  pub placed : (value : ℕ) → place_of t.size (assignment_at last registers value) ≡ passed + value
  placed value = omega (arith, place_of-snoc t.size (take last registers) value, place)

  -- the values of the last variable that agree go on with the assignments that do
  pub agree_more : ((j : ℕ) → j < count → AgreesAt t e (assignment_at last registers j)) → AgreesBefore t e (passed + count)
  agree_more row xs a h = elim (cases_lt (place_of t.size xs) passed) [
    | inl l ↦ agree xs a l
    | inr l ↦
        let j = place_of t.size xs - passed in
        let at : j < count = omega (arith, h, l) in
        let b : IsAssignment (variables e) t.size (assignment_at last registers j) = subst (λ k. IsAssignment k t.size (assignment_at last registers j)) (sym variables_are) (assignment_of t last j registers few long values (omega (arith, at))) in
        let same : assignment_at last registers j ≡ xs = one_assignment (variables e) t.size (assignment_at last registers j) xs b a (omega (arith, placed j, l)) in
        subst (AgreesAt t e) same (row j at)
  ]

-- the place of the next row is in range
pub row_below : (n last p : ℕ) → p * n < n ^ (last + 1) → p < n ^ last
row_below n last p h =
    let e : n ^ (last + 1) ≡ n ^ last * n = ap (λ k. n ^ k) (omega arith) ∙ pow-suc n last in
    lt_of_mul-lt-mul_right n (subst (λ z. p * n < z) e h)

zeros : List ℕ → Bool
zeros [] = true
zeros (zero ∷ xs) = zeros xs
zeros (suc x ∷ xs) = false

zero_at : (xs : List ℕ) → zeros xs ≡ true → (i : ℕ) → get_or xs i 0 ≡ 0
unfolding zeros
zero_at [] h i = refl
zero_at (zero ∷ xs) h zero = refl
zero_at (zero ∷ xs) h (suc i) = zero_at xs h i
zero_at (suc x ∷ xs) h i = absurd (cc)

pub walked_none : (t : Table) (e : Equation) (last all : ℕ) (values registers : List ℕ) → length values ≡ last + 1 → length registers ≡ 18 → 1 ≤ t.size → ((i : ℕ) → get_or values i 0 ≡ 0) → ((i : ℕ) → get_or registers i 0 ≡ 0) → Walked t e last values registers 0 all
walked_none t e last all values registers values_long long some h k = record {
  values_long = values_long;
  long = long;
  digits = λ i l. subst (λ z. z < t.size) (sym (h i)) some;
  below = λ r l. subst (λ z. z < t.size) (sym (k r)) some;
  agree = λ xs a l. absurd (omega arith);
  within = omega arith;
  place = λ l. let z = place_of-zeros t.size (take last values) (λ i m. get_or-take last values i 0 (omega (arith, length-take last values)) ∙ h i) in ap (λ z. z * t.size) z ∙ zero-mul t.size;
}

no_values : List ℕ
no_values = 0 ∷ 0 ∷ 0 ∷ 0 ∷ 0 ∷ 0 ∷ 0 ∷ 0 ∷ 0 ∷ 0 ∷ 0 ∷ 0 ∷ 0 ∷ 0 ∷ 0 ∷ 0 ∷ 0 ∷ 0 ∷ []

pub walked_at_first : (t : Table) (e : Equation) (last all : ℕ) (values : List ℕ) → length values ≡ last + 1 → ((i : ℕ) → get_or values i 0 ≡ 0) → 1 ≤ t.size → Walked t e last values (0 ∷ 0 ∷ 0 ∷ 0 ∷ 0 ∷ 0 ∷ 0 ∷ 0 ∷ 0 ∷ 0 ∷ 0 ∷ 0 ∷ 0 ∷ 0 ∷ 0 ∷ 0 ∷ 0 ∷ 0 ∷ []) 0 all
unfolding zeros no_values
walked_at_first t e last all values long h some = walked_none t e last all values no_values long refl some h (zero_at no_values refl)

none_at : (n i : ℕ) → get_or (replicate {A = ℕ} n 0) i 0 ≡ 0
none_at zero i = refl
none_at (suc n) zero = refl
none_at (suc n) (suc i) = none_at n i

pub walked_from_none : (t : Table) (e : Equation) (k all : ℕ) → 0 < k → 1 ≤ t.size → Walked t e (k - 1) (replicate k 0) (0 ∷ 0 ∷ 0 ∷ 0 ∷ 0 ∷ 0 ∷ 0 ∷ 0 ∷ 0 ∷ 0 ∷ 0 ∷ 0 ∷ 0 ∷ 0 ∷ 0 ∷ 0 ∷ 0 ∷ 0 ∷ []) 0 all
walked_from_none t e k all h some =
    walked_at_first t e (k - 1) all (replicate k 0) (length-replicate k 0 ∙ omega arith) (none_at k) some

-- the last value written
pub last_set : (xs : List ℕ) (n v : ℕ) → length xs ≡ n + 1 → set xs n v ≡ take n xs ++ v ∷ []
last_set xs n v h = sym (take-length (set xs n v)) ∙ ap (λ k. take k (set xs n v)) (length-set xs n v ∙ h) ∙ take_more_set xs n v (omega arith)

-- values in front of the registers after them
module _ (t : Table) (last : ℕ) (values registers : List ℕ) (few : last ≤ 6) (values_long : length values ≡ last + 1) (long : length registers ≡ 18) where
  front_long : length (take last values) ≡ last
  front_long = length-take-le last values (omega arith)

  pub joined_long : length (take last values ++ drop last registers) ≡ 18
  joined_long = let f = front_long in omega (arith, length-append (take last values) (drop last registers), length-drop last registers, f)

  pub joined_front : take last (take last values ++ drop last registers) ≡ take last values
  joined_front = ap (λ k. take k (take last values ++ drop last registers)) (sym front_long) ∙ take-append_seam (take last values) (drop last registers)

  pub joined_below : AreDigits t.size values → AreValues t registers → AreValues t (take last values ++ drop last registers)
  joined_below digits below r h = let f = front_long in elim (cases_lt r (length (take last values))) [
    | inl l ↦ subst (λ z. z < t.size) (sym (get_or_append_left (take last values) (drop last registers) 0 r l ∙ get_or-take last values r 0 (omega arith))) (digits r (omega arith))
    | inr l ↦ subst (λ z. z < t.size) (sym (get_or-append_right (take last values) (drop last registers) last r 0 f (omega arith) ∙ get_or-drop last registers (r - last) 0 ∙ ap (λ i. get_or registers i 0) (omega arith))) (below r h)
  ]

module _ (t : Table) (c : CompiledLaw) (last : ℕ) (values registers first second : List ℕ) (passed all count : ℕ) (compiled : IsCompiled c) (at_last : last ≡ c.program.last) (walked : Walked t (law_of c) last values registers passed all) (more : passed < all) (long_first : length first ≡ 18) (long_second : length second ≡ 18) (kept_run : SameBelow 7 (take last values ++ drop last registers) first) (below_first : AreValues t first) (row_run : SameBelow 12 first second) (small : count ≤ t.size) (in_all : count ≤ all - passed) where
  few : last ≤ 6
  few = let f = compiled.few in omega arith

  variables_at : variables (law_of c) ≡ last + 1
  variables_at = let v = compiled.variables_are in omega arith

  fronts : take last first ≡ take last values
  fronts =
      let f = few in
      let long = joined_long t last values registers few walked.values_long walked.long in
      take_same last (take last values ++ drop last registers) first (omega arith) (omega arith) (λ i h. kept_run i (omega arith))
      ∙ joined_front t last values registers few walked.values_long walked.long

  place : place_of t.size (take last first) * t.size ≡ passed
  place = ap (λ xs. place_of t.size xs * t.size) fronts ∙ walked.place more

  second_front : take last second ≡ take last first
  second_front = let f = few in take_same last first second (omega arith) (omega arith) (λ i h. row_run i (omega arith))

  agrees : (n : ℕ) → n ≤ t.size → ((j : ℕ) → j < n → AgreesAt t (law_of c) (assignment_at c.program.last first j)) → AgreesBefore t (law_of c) (passed + n)
  agrees n h row =
      agree_more t (law_of c) last passed n first variables_at few (omega arith) below_first h place walked.agree
      (λ j l. subst (λ k. AgreesAt t (law_of c) (assignment_at k first j)) (sym at_last) (row j l))

  pub row_agrees : ((j : ℕ) → j < count → AgreesAt t (law_of c) (assignment_at c.program.last first j)) → AgreesBefore t (law_of c) (passed + count)
  row_agrees row = agrees count small row

  pub walked_last : AreValues t second → AgreesBefore t (law_of c) (passed + count) → all ≤ passed + count → Walked t (law_of c) last values second (passed + count) all
  walked_last below agree over = record {
    values_long = walked.values_long;
    long = long_second;
    digits = walked.digits;
    below = below;
    agree = agree;
    within = omega arith;
    place = λ h. absurd (omega arith);
  }

  module _ (whole : count ≡ min (all - passed) t.size) (go_on : passed + count < all) where
    full : count ≡ t.size
    full = omega arith

    next_place : (p : ℕ) → p * t.size ≡ passed → (p + 1) * t.size ≡ passed + count
    next_place p h = let f = full in omega (arith, h, f)

    pub next_fits : all ≡ min limit (assignments t (law_of c)) → place_of t.size (take last values) + 1 < t.size ^ length (take last values)
    next_fits is =
        let f = few in
        let p = place_of t.size (take last values) in
        let power : assignments t (law_of c) ≡ t.size ^ (last + 1) = ap (λ k. t.size ^ k) variables_at in
        let next = next_place p (walked.place more) in
        let fits : p + 1 < t.size ^ last = row_below t.size last (p + 1) (omega (arith, power, next, is)) in
        subst (λ k. p + 1 < t.size ^ k) (sym (length-take-le last values (let l = walked.values_long in omega arith))) fits

    module _ (digits : List ℕ) (below : AreValues t second) (are : AreDigits t.size digits) (count_of : length digits ≡ length (take last values)) (next : place_of t.size digits ≡ place_of t.size (take last values) + 1) where
      as_many : length digits ≡ last
      as_many = let l = walked.values_long in count_of ∙ length-take-le last values (omega arith)

      next_long : length (digits ++ drop last values) ≡ last + 1
      next_long = let l = walked.values_long in omega (arith, as_many, length-append digits (drop last values), length-drop last values)

      next_digits : AreDigits t.size (digits ++ drop last values)
      next_digits i h = let m = as_many in let n = next_long in let l = walked.values_long in elim (cases_lt i (length digits)) [
        | inl k ↦ subst (λ z. z < t.size) (sym (get_or_append_left digits (drop last values) 0 i k)) (are i k)
        | inr k ↦ subst (λ z. z < t.size) (sym (get_or-append_right digits (drop last values) last i 0 m (omega arith) ∙ get_or-drop last values (i - last) 0 ∙ ap (λ r. get_or values r 0) (omega arith))) (walked.digits i (omega arith))
      ]

      next_front : take last (digits ++ drop last values) ≡ digits
      next_front = ap (λ k. take k (digits ++ drop last values)) (sym as_many) ∙ take-append_seam digits (drop last values)

      pub walked_next : AgreesBefore t (law_of c) (passed + count) → Walked t (law_of c) last (digits ++ drop last values) second (passed + count) all
      walked_next agree = record {
        values_long = next_long;
        long = long_second;
        digits = next_digits;
        below = below;
        agree = agree;
        within = omega arith;
        place = λ _. ap (λ xs. place_of t.size xs * t.size) next_front ∙ ap (λ p. p * t.size) next ∙ next_place (place_of t.size (take last values)) (walked.place more);
      }

  module _ (value : ℕ) (point : Point) (found : IsFirstInRow t c first second count value) (limited : all ≤ limit) (point_variables : point.variables ≡ last + 1) (values_are : values_of point ≡ take last values ++ value ∷ []) (padded : IsPadded point) where
    value_small : value < t.size
    value_small = let w = found.within in omega arith

    are_here : values_of point ≡ assignment_at last first value
    are_here = values_are ∙ ap (λ xs. xs ++ value ∷ []) (sym fronts)

    are : values_of point ≡ assignment_at c.program.last first value
    are = are_here ∙ ap (λ k. assignment_at k first value) at_last

    at : place_of t.size (values_of point) ≡ passed + value
    at = ap (place_of t.size) are_here ∙ placed t (law_of c) last passed count first variables_at few (omega arith) below_first small place walked.agree value

    pub failure_is_first : IsFirstFailure t (law_of c) point (get_or second c.left 0) (get_or second c.right 0)
    failure_is_first = record {
      variables_are = point_variables ∙ sym variables_at;
      padded = padded;
      assignment = subst (λ xs. IsAssignment (variables (law_of c)) t.size xs) (sym are_here) (subst (λ k. IsAssignment k t.size (assignment_at last first value)) (sym variables_at) (assignment_of t last value first few (omega arith) below_first value_small));
      among = let w = found.within in omega (arith, at, w);
      before = subst (AgreesBefore t (law_of c)) (sym at) (agrees value (let s = value_small in omega arith) found.before);
      left_is = found.left_is ∙ ap (λ xs. meaning (times t) (assigned xs) (law_of c).left) (sym are);
      right_is = found.right_is ∙ ap (λ xs. meaning (times t) (assigned xs) (law_of c).right) (sym are);
      differ = found.differ;
    }

-- all that are looked at agree
pub all_agree : (t : Table) (e : Equation) (last all passed : ℕ) (values registers : List ℕ) → all ≡ min limit (assignments t e) → all ≤ passed → Walked t e last values registers passed all → AgreesBefore t e limit
all_agree t e last all passed values registers is over walked xs a h =
    let low = place_below (variables e) t.size xs a in
    walked.agree xs a (omega (arith, low, is, over, h))
