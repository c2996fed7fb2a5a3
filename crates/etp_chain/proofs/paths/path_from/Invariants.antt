use Rattle.std.proofs.Common.{◌<◌, ◌*◌, ℕ, List, length, get_or}
use Rattle.etp_theory.specs.Reach.{Fact}
use Rattle.etp_chain.specs.Edges.{IsGraph}
use Rattle.etp_chain.specs.Searches.{IsSearched, IsFound}
use Rattle.etp_chain.proofs.Distances.{Going}
use Rattle.etp_chain.proofs.paths.path_from.Given as goal

abbrev pub decreases-steps : goal.decreases-steps
decreases-steps l = get_or l.found l.law 0

abbrev pub invariant-steps : goal.invariant-steps
invariant-steps l = record {
  law_in : l.law < length l.found;
  is_found : IsFound l.found l.law;
  going : (duals : List ℕ) (facts : List Fact) (end : ℕ) → IsGraph duals facts (2 * length facts) l.graph
      → IsSearched l.graph.goals.laws.items l.graph.hypotheses.laws.items end l.found → Going duals facts end l.fn.first l.law l.path;
}
