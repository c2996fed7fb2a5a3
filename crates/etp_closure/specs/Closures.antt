-- What callers see of a closure, and for which lists of facts it stands.
use Rattle.std.specs.Prelude.{◌≡◌, ℕ, zero, suc, ◌↔◌, List, Contains, All, Option, Some, None, IsSome, IsTrue, Bool, false, nat_eq, slice_index}
use Rattle.etp_bits.specs.Bits.{Bits, bit}
use Rattle.etp_theory.specs.LawNumbers.{dual_number}
use Rattle.etp_theory.specs.Reach.{Fact, implies, refutes, Reach, Covers}

-- the list of duals, for each law from 1 on one more than its slot, or 0 where it isn't kept,
-- and the reached and the covered pairs of kept laws, by their slots
pub record Known : Type 0 where
  pub duals : List ℕ
  pub slots : List ℕ
  pub reached : Bits
  pub covered : Bits

abbrev pub slot_from : ℕ → Option ℕ
slot_from zero = None
slot_from (suc slot) = Some slot

-- the row and the column of a law in both matrices, where the law is kept
abbrev pub slot_of : List ℕ → ℕ → Option ℕ
slot_of slots zero = None
slot_of slots (suc place) = slot_from (slice_index slots place)

-- a row and a column are held for the law
abbrev pub IsKept : List ℕ → ℕ → Type 0
IsKept slots law = IsSome (slot_of slots law)

-- the bit of two laws that are kept, else the last argument
abbrev pub bit_by_slots : Bits → Option ℕ → Option ℕ → Bool → Bool
bit_by_slots matrix (Some row) (Some column) otherwise = bit matrix row column
bit_by_slots matrix (Some row) None otherwise = otherwise
bit_by_slots matrix None column otherwise = otherwise

-- the pair's truth value "reached": a law that isn't kept is reached from itself alone
unfoldable pub is_reached : Known → ℕ → ℕ → Bool
is_reached known e f = bit_by_slots known.reached (slot_of known.slots e) (slot_of known.slots f) (nat_eq e f)

-- the pair's truth value "covered"
unfoldable pub is_covered : Known → ℕ → ℕ → Bool
is_covered known e f = bit_by_slots known.covered (slot_of known.slots e) (slot_of known.slots f) false

-- both truth values of every pair are the same
pub record SameAnswers (old new : Known) : Type 0 where
  pub same_reached : (e f : ℕ) → is_reached new e f ≡ is_reached old e f
  pub same_covered : (e f : ℕ) → is_covered new e f ≡ is_covered old e f

-- all laws that the fact names are kept
abbrev pub HasKeptLaws : List ℕ → Fact → Type 0
HasKeptLaws slots (implies hypothesis goal) = IsKept slots hypothesis × IsKept slots goal
HasKeptLaws slots (refutes holds fails) = All (IsKept slots) holds × All (IsKept slots) fails

-- the closure's truth values are those that follow from the facts, for all pairs of numbers
pub record StandsFor (known : Known) (facts : List Fact) : Type 0 where
  pub kept : (fact : Fact) → Contains facts fact → HasKeptLaws known.slots fact
  pub reached : (e f : ℕ) → IsTrue (is_reached known e f) ↔ Reach known.duals facts e f
  pub covered : (e f : ℕ) → IsTrue (is_covered known e f) ↔ Covers known.duals facts e f

-- a law that is kept already, or that is in one of two lists, or whose dual is
pub data IsReserved (duals slots first second : List ℕ) (law : ℕ) : Type 0 where
  kept_before : IsKept slots law → IsReserved duals slots first second law
  in_first : Contains first law → IsReserved duals slots first second law
  in_second : Contains second law → IsReserved duals slots first second law
  dual_in_first : (other : ℕ) → Contains first other → law ≡ dual_number duals other
      → IsReserved duals slots first second law
  dual_in_second : (other : ℕ) → Contains second other → law ≡ dual_number duals other
      → IsReserved duals slots first second law

-- every law keeps its slot
abbrev pub KeepsSlots : List ℕ → List ℕ → Type 0
KeepsSlots old new = (law slot : ℕ) → slot_of old law ≡ Some slot → slot_of new law ≡ Some slot
