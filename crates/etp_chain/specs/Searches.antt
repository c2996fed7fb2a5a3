-- Searches by levels over edges, each from the law at one place of a list to the law at that place of another.
use Rattle.std.specs.Prelude.{◌≡◌, ℕ, suc, ◌+◌, ◌-◌, ◌<◌, ◌≤◌, ◌⊎◌, Bool, List, length, slice_index, Contains, sum_by}
use Rattle.etp_closure.specs.Tables.{image_of}

-- some edge leads from a to b
pub record Leads (from to : List ℕ) (a b : ℕ) : Type 0 where
  pub place : ℕ
  pub within : place < length from
  pub begins : slice_index from place ≡ a
  pub ends : slice_index to place ≡ b

-- so many edges lead from the first law to the second
pub data Hops (from to : List ℕ) : ℕ → ℕ → ℕ → Type 0 where
  here : (a : ℕ) → Hops from to 0 a a
  hop : {n a b c : ℕ} → Hops from to n a b → Leads from to b c → Hops from to (suc n) a c

-- a law is found where its number in the list isn't 0
abbrev pub IsFound : List ℕ → ℕ → Type 0
IsFound found law = 0 < slice_index found law

-- laws that aren't found
abbrev pub missing : List ℕ → ℕ
missing found = sum_by (λ code. 1 - code) found

-- each law that is found has one more than a number of edges that lead to it from the start
abbrev pub HasHops : List ℕ → List ℕ → ℕ → List ℕ → Type 0
HasHops from to start found = (law n : ℕ) → slice_index found law ≡ suc n → Hops from to n start law

-- each law has one more than the least number of edges that lead to it from the start, or 0
pub record IsSearched (from to : List ℕ) (start : ℕ) (found : List ℕ) : Type 0 where
  pub begun : slice_index found start ≡ 1
  pub hops : HasHops from to start found
  pub onward : (a b : ℕ) → Leads from to a b → IsFound found a
      → IsFound found b × (slice_index found b ≤ slice_index found a + 1)

-- a search within a level: edges from laws of lower levels are done, and the next level has what is found since
pub record IsSpread (from to : List ℕ) (start code : ℕ) (found level next : List ℕ) : Type 0 where
  pub positive : 0 < code
  pub begun : slice_index found start ≡ 1
  pub hops : HasHops from to start found
  pub at_most : (law : ℕ) → slice_index found law ≤ code + 1
  pub level_has : (law : ℕ) → slice_index found law ≡ code → Contains level law
  pub level_is : (law : ℕ) → Contains level law → slice_index found law ≡ code
  pub next_has : (law : ℕ) → slice_index found law ≡ code + 1 → Contains next law
  pub next_is : (law : ℕ) → Contains next law → slice_index found law ≡ code + 1
  pub onward : (a b : ℕ) → Leads from to a b → IsFound found a → slice_index found a < code
      → IsFound found b × (slice_index found b ≤ slice_index found a + 1)

-- what was found stays, and each law that is found since is one more of the list
pub record Grows (old new before after : List ℕ) : Type 0 where
  pub same_length : length new ≡ length old
  pub stays : (law : ℕ) → IsFound old law → slice_index new law ≡ slice_index old law
  pub counted : missing new + length after ≡ missing old + length before

-- the law at the end of an edge is found, and one edge nearer to the start of the search
pub record IsNearer (found : List ℕ) (law next : ℕ) : Type 0 where
  pub is_found : IsFound found next
  pub one_less : slice_index found next + 1 ≡ slice_index found law

-- the place of an edge from the law to the least law that is nearer, and the first such place
pub record IsBest (from to found : List ℕ) (law place : ℕ) : Type 0 where
  pub within : place < length from
  pub begins : slice_index from place ≡ law
  pub nearer : IsNearer found law (slice_index to place)
  pub least : (other : ℕ) → other < length from → slice_index from other ≡ law
      → IsNearer found law (slice_index to other)
      → (slice_index to place < slice_index to other)
      ⊎ ((slice_index to place ≡ slice_index to other) × (place ≤ other))

-- the least law, of a list or of the duals of a list, that is found
pub record IsLeastFound (duals : List ℕ) (dual : Bool) (found laws : List ℕ) (least : ℕ) : Type 0 where
  pub law : ℕ
  pub law_in : Contains laws law
  pub image : least ≡ image_of duals dual law
  pub is_found : IsFound found least
  pub no_less : (other : ℕ) → Contains laws other → IsFound found (image_of duals dual other)
      → least ≤ image_of duals dual other
