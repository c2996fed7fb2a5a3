-- What the loops over rows of reached and covered pairs keep.
use Rattle.std.specs.Prelude.{◌≡◌, ℕ, ◌≤◌, ◌<◌, true, false, Bool, not, ◌&&◌, ◌||◌, ◌^◌, List, Contains, slice_index, length, Option, Some, None, unwrap_or, if◌then◌else◌, ◌⊎◌}
use Rattle.etp_bits.specs.Bits.{Bits, bit}
use Rattle.etp_theory.specs.LawNumbers.{IsOwnInverse, dual_number}
use Rattle.etp_closure.specs.Closures.{slot_of, IsKept}

-- a row and a column for each of `count` laws, and no more
pub record IsSquare (matrix : Bits) (count : ℕ) : Type 0 where
  pub rows_are : matrix.rows ≡ count
  pub columns_are : matrix.columns ≡ count
  pub within : (row column : ℕ) → bit matrix row column ≡ true → (row < count) × (column < count)

-- the four rows of marks
pub record IsMarks (marks : Bits) (count : ℕ) : Type 0 where
  pub rows_are : marks.rows ≡ 4
  pub columns_are : marks.columns ≡ count

-- each kept law has its place in the list as its slot
pub record IsOneToOne (slots laws : List ℕ) : Type 0 where
  pub slot_law : (slot : ℕ) → slot < length laws → slot_of slots (slice_index laws slot) ≡ Some slot
  pub law_slot : (law slot : ℕ) → slot_of slots law ≡ Some slot → (slot < length laws) × (slice_index laws slot ≡ law)

-- the same pairs, each with its second as the row
pub record IsTurned (matrix turned : Bits) : Type 0 where
  pub same_pairs : (row column : ℕ) → bit turned column row ≡ bit matrix row column

-- reach goes on, and a covered pair moves on to what its first reaches, and back to what reaches its second
pub record IsClosed (reached covered : ℕ → ℕ → Bool) : Type 0 where
  pub onward : (x y z : ℕ) → reached x y ≡ true → reached y z ≡ true → reached x z ≡ true
  pub moves_on : (x y z : ℕ) → covered x y ≡ true → reached x z ≡ true → covered z y ≡ true
  pub moves_back : (x y z : ℕ) → covered x y ≡ true → reached z y ≡ true → covered x z ≡ true

-- the covered pairs after an edge from a to b, where `ends` are what b reaches and `starts` what reaches a
abbrev pub moved_along : (ℕ → Bool) → (ℕ → Bool) → (ℕ → ℕ → Bool) → ℕ → ℕ → ℕ → ℕ → Bool
moved_along starts ends c a b x y = (c x y || (ends x && c a y)) || ((c x b || (ends x && c a b)) && starts y)

-- the covered pairs after an edge more, by the reached pairs and the covered pairs before
abbrev pub covered_along : (ℕ → ℕ → Bool) → (ℕ → ℕ → Bool) → ℕ → ℕ → ℕ → ℕ → Bool
covered_along r c a b x y = (c x y || (r b x && c a y)) || ((c x b || (r b x && c a b)) && r y a)

-- the marks of an edge from a to b: what reaches a and not b, what b reaches and a doesn't, and two rows with no mark
pub record MarksEdge (marks : Bits) (reached : ℕ → ℕ → Bool) (a b : ℕ) : Type 0 where
  pub starts : (law : ℕ) → bit marks 0 law ≡ (reached law a && not (reached law b))
  pub ends : (law : ℕ) → bit marks 1 law ≡ (reached b law && not (reached a law))
  pub third : (law : ℕ) → bit marks 2 law ≡ false
  pub fourth : (law : ℕ) → bit marks 3 law ≡ false

-- the tables after one edge more: nothing changes where it was there already, else rows are joined
pub data Links (r c new_r new_c : ℕ → ℕ → Bool) (a b : ℕ) : Type 0 where
  already : r a b ≡ true → ((x y : ℕ) → new_r x y ≡ r x y) → ((x y : ℕ) → new_c x y ≡ c x y)
      → Links r c new_r new_c a b
  anew : ((x y : ℕ) → new_r x y ≡ (r x y || (r x a && r b y)))
      → ((x y : ℕ) → new_c x y ≡ covered_along r c a b x y) → Links r c new_r new_c a b

-- what is named is marked, or covered against all of a row already
pub record MarksUncovered (marks row : ℕ → Bool) (covered : ℕ → ℕ → Bool) (named : ℕ → Bool) : Type 0 where
  pub sound : (law : ℕ) → marks law ≡ true → named law ≡ true
  pub complete : (law : ℕ) → named law ≡ true
      → (marks law ≡ true) ⊎ ((other : ℕ) → row other ≡ true → covered law other ≡ true)

-- whether there is a first law and the second is reached from it
abbrev pub reached_from : (ℕ → ℕ → Bool) → Option ℕ → ℕ → Bool
reached_from reached None second = false
reached_from reached (Some first) second = reached first second

-- a law is marked already, or reached from the law that is known to be covered against all of a row,
-- or is found to be covered so itself, or what it reaches is marked
pub data MarksLaw (old new row : ℕ → Bool) (reached covered : ℕ → ℕ → Bool) (slot : ℕ)
    (found next : Option ℕ) : Type 0 where
  was_marked : old slot ≡ true → ((law : ℕ) → new law ≡ old law) → next ≡ found
      → MarksLaw old new row reached covered slot found next
  was_reached : reached_from reached found slot ≡ true → ((law : ℕ) → new law ≡ old law) → next ≡ found
      → MarksLaw old new row reached covered slot found next
  is_found : ((law : ℕ) → row law ≡ true → covered slot law ≡ true) → ((law : ℕ) → new law ≡ old law)
      → (next ≡ Some slot) ⊎ (next ≡ found)
      → MarksLaw old new row reached covered slot found next
  is_added : ((law : ℕ) → new law ≡ (old law || reached slot law)) → next ≡ found
      → MarksLaw old new row reached covered slot found next

-- more laws have slots, and the slots that were there stay
pub record Extends (old_slots old_laws new_slots new_laws : List ℕ) : Type 0 where
  pub same_size : length new_slots ≡ length old_slots
  pub more : length old_laws ≤ length new_laws
  pub stays : (law slot : ℕ) → slot_of old_slots law ≡ Some slot → slot_of new_slots law ≡ Some slot
  pub was_there : (law slot : ℕ) → slot_of new_slots law ≡ Some slot → slot < length old_laws
      → slot_of old_slots law ≡ Some slot

-- a law of the list, or the dual of one
pub data IsNamed (duals laws : List ℕ) (law : ℕ) : Type 0 where
  listed : Contains laws law → IsNamed duals laws law
  dual_listed : (other : ℕ) → Contains laws other → law ≡ dual_number duals other → IsNamed duals laws law

-- the row of a kept law
abbrev pub row_of : List ℕ → ℕ → ℕ
row_of slots law = unwrap_or (slot_of slots law) 0

-- the law itself, or its dual
abbrev pub image_of : List ℕ → Bool → ℕ → ℕ
image_of duals dual law = if dual then dual_number duals law else law

-- what a closure's fields keep
pub record IsClosure (duals slots laws : List ℕ) (reached covered marks reaching : Bits)
    (has_covered : Bool) : Type 0 where
  pub own_inverse : IsOwnInverse duals
  pub same_size : length slots ≡ length duals
  pub paired : IsOneToOne slots laws
  pub few : length laws < 2 ^ 32
  pub many : length duals < 2 ^ 32
  pub duals_kept : (law : ℕ) → IsKept slots law → IsKept slots (dual_number duals law)
  pub reached_size : IsSquare reached (length laws)
  pub covered_size : IsSquare covered (length laws)
  pub marks_size : IsMarks marks (length laws)
  pub reaching_size : IsSquare reaching (length laws)
  pub turned : IsTurned reached reaching
  pub closed : IsClosed (bit reached) (bit covered)
  pub none_covered : has_covered ≡ false → (row column : ℕ) → bit covered row column ≡ false
