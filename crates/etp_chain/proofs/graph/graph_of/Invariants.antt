use Rattle.std.proofs.Common.{◌+◌, ◌*◌, length}
use Rattle.etp_chain.specs.Edges.{HasEnds, IsGraph}
use Rattle.etp_chain.proofs.graph.graph_of.Given as goal

abbrev pub invariant-loop-file : goal.invariant-loop-file
invariant-loop-file g l = record {
  ready : HasEnds (length l.duals + 1) l.graph;
  edges : IsGraph l.duals (g.L.Facts.said l.facts) (2 * l.file) l.graph;
}
