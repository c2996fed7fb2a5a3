-- Edges by their two ends, threaded by law, and what a list of them is of facts.
use Rattle.std.specs.Prelude.{◌≡◌, ℕ, suc, ◌<◌, ◌≤◌, Bool, List, length, slice_index, slice_get, Some}
use Rattle.etp_theory.specs.Reach.{Fact}
use Rattle.etp_chain.specs.Evidence.{GivesEdge, turn_of}
use Rattle.etp_chain.specs.declared.ends.Ends.{Ends}
use Rattle.etp_chain.specs.declared.graph.Graph.{Graph}
use Rattle.etp_chain.specs.declared.graph.Source.{Source}

-- one more than the last place below a bound at which the law stands, or 0 where it stands at none
pub record IsLast (laws : List ℕ) (law bound last : ℕ) : Type 0 where
  pub within : last ≤ bound
  pub stands : (place : ℕ) → suc place ≡ last → slice_index laws place ≡ law
  pub no_later : (place : ℕ) → last ≤ place → place < bound → slice_index laws place ≡ law → ⊥

-- for each law its last place, and for each place the last one of its law before
pub record IsThreaded (laws heads earlier : List ℕ) : Type 0 where
  pub same_length : length earlier ≡ length laws
  pub laws_in : (place : ℕ) → place < length laws → slice_index laws place < length heads
  pub heads_are : (law : ℕ) → law < length heads → IsLast laws law (length laws) (slice_index heads law)
  pub earlier_are : (place : ℕ) → place < length laws
      → IsLast laws (slice_index laws place) place (slice_index earlier place)

-- laws are below this number
abbrev pub size_of : Ends → ℕ
size_of ends = length ends.heads.items

-- the threads of one end of all edges, for so many laws
pub record IsEnds (size : ℕ) (ends : Ends) : Type 0 where
  pub sized : size_of ends ≡ size
  pub threaded : IsThreaded ends.laws.items ends.heads.items ends.earlier.items

-- both ends of the same edges, and what gives each edge
pub record HasEnds (size : ℕ) (graph : Graph) : Type 0 where
  pub hypotheses : IsEnds size graph.hypotheses
  pub goals : IsEnds size graph.goals
  pub same_length : length graph.goals.laws.items ≡ length graph.hypotheses.laws.items
  pub same_sources : length graph.sources.items ≡ length graph.hypotheses.laws.items

-- what stands at a place: an edge from e to f, and what gives it
pub record StandsAt (from to : List ℕ) (sources : List Source) (place e f file : ℕ) (dual : Bool) : Type 0 where
  pub within : place < length from
  pub begins : slice_index from place ≡ e
  pub ends : slice_index to place ≡ f
  pub source : slice_get sources place ≡ Some (record { file = file; dual = dual })

-- the edges of facts, in the order of files, each plain before dual, up to a turn
pub record HasEdges (duals : List ℕ) (facts : List Fact) (turn : ℕ) (from to : List ℕ) (sources : List Source) : Type 0 where
  pub same_length : length to ≡ length from
  pub same_sources : length sources ≡ length from
  pub given : (place e f file : ℕ) (dual : Bool) → StandsAt from to sources place e f file dual
      → GivesEdge duals facts file dual e f × (turn_of file dual < turn)
  pub found : (file : ℕ) (dual : Bool) (e f : ℕ) → GivesEdge duals facts file dual e f → turn_of file dual < turn
      → (place : ℕ) × StandsAt from to sources place e f file dual
  pub in_order : (place later e f file g h other : ℕ) (dual turned : Bool) → place < later
      → StandsAt from to sources place e f file dual → StandsAt from to sources later g h other turned
      → turn_of file dual < turn_of other turned

abbrev pub IsGraph : List ℕ → List Fact → ℕ → Graph → Type 0
IsGraph duals facts turn graph = HasEdges duals facts turn graph.hypotheses.laws.items graph.goals.laws.items graph.sources.items
