-- What the search for classes goes by: the laws that may imply another law.
use Rattle.std.specs.Prelude.{◌≡◌, ℕ, ◌+◌, ◌<◌, ◌&&◌, List, Bool, true, false, All, filter, map, is_some, nat_eq, length, Some, None, unwrap_or, if◌then◌else◌}
use Rattle.std.specs.declared.option.Option.{Option}
use Rattle.etp_bits.specs.Bits.{Bits}
use Rattle.etp_bits.specs.Counts.{count_below}
use Rattle.etp_closure.specs.Closures.{Known, slot_of, is_reached}
use Rattle.etp_closure.specs.Answers.{answer_of}
use Rattle.etp_report.specs.Reports.{laws_to, class_with, is_least}

-- law e reaches itself, and one law in all
abbrev pub implies_one : Known → ℕ → Bool
implies_one known e =
    is_reached known e e
    && nat_eq (count_below (λ place. is_reached known e (place + 1)) (length known.duals)) 1

-- the slot of a law that may imply another law: one that is kept, and doesn't reach itself alone
abbrev pub candidate_slot : Known → ℕ → Option ℕ
candidate_slot known e = if implies_one known e then None else slot_of known.slots e

-- the rising list of the laws that may imply another law
abbrev pub candidates : Known → List ℕ
candidates known = filter (λ law. is_some (candidate_slot known law)) (laws_to (length known.duals))

-- a row and a column of the reached pairs
abbrev pub IsSlot : Bits → ℕ → Type 0
IsSlot reached slot = (slot < reached.rows) × (slot < reached.columns)

-- these are the candidates, and their slots in the same order
pub record AreCandidates (known : Known) (laws slots : List ℕ) : Type 0 where
  pub listed : laws ≡ candidates known
  pub same_order : slots ≡ map (λ law. unwrap_or (slot_of known.slots law) 0) laws
  pub in_matrix : All (IsSlot known.reached) slots

-- the class of law e where e is its least law, else nothing
abbrev pub IsClassOfLeast : Known → ℕ → Option (List ℕ) → Type 0
IsClassOfLeast known e None = is_least (answer_of known) (length known.duals) e ≡ false
IsClassOfLeast known e (Some found) =
    (is_least (answer_of known) (length known.duals) e ≡ true)
    × (found ≡ class_with (answer_of known) (length known.duals) e)
