-- Reports on the answers to pairs of the laws 1 to n: each is a filter over all of them.
use Rattle.std.specs.Prelude.{◌≡◌, ℕ, List, Bool, not, ◌&&◌, filter, map, nat_lt, Some, Contains, slice_get}
use Rattle.std.specs.List.{range_with_len, list_any}
use Rattle.etp_closure.specs.declared.facts.Answer.{Answer}
use Rattle.etp_closure.specs.declared.facts.Answer.TheVariants.{Implied}
use Rattle.etp_report.specs.Pairs.{is_same}

-- the laws 1 to n
abbrev pub laws_to : ℕ → List ℕ
laws_to n = range_with_len 1 n

-- the rising list of the laws that have the answer as the second of a pair with law e
abbrev pub row_with : (ℕ → ℕ → Answer) → ℕ → Answer → ℕ → List ℕ
row_with answer_to n answer e = filter (λ f. is_same (answer_to e f) answer) (laws_to n)

-- each of two laws implies the other
abbrev pub are_equivalent : (ℕ → ℕ → Answer) → ℕ → ℕ → Bool
are_equivalent answer_to e f = is_same (answer_to e f) Implied && is_same (answer_to f e) Implied

-- the rising list of the laws that are equivalent to law e
abbrev pub class_with : (ℕ → ℕ → Answer) → ℕ → ℕ → List ℕ
class_with answer_to n e = filter (are_equivalent answer_to e) (laws_to n)

-- no law of its class is smaller
abbrev pub is_least : (ℕ → ℕ → Answer) → ℕ → ℕ → Bool
is_least answer_to n e = not (list_any (λ f. nat_lt f e) (class_with answer_to n e))

-- the classes of all laws, by their least laws
abbrev pub classes_with : (ℕ → ℕ → Answer) → ℕ → List (List ℕ)
classes_with answer_to n = map (class_with answer_to n) (filter (is_least answer_to n) (laws_to n))

-- the law is in one of the lists and in no other
pub record IsInOne (lists : List (List ℕ)) (law : ℕ) : Type 0 where
  pub place : ℕ
  pub own : List ℕ
  pub there : slice_get lists place ≡ Some own
  pub within : Contains own law
  pub only : (other : ℕ) (list : List ℕ) → slice_get lists other ≡ Some list → Contains list law
      → other ≡ place
