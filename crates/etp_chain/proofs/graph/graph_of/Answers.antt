use Rattle.std.proofs.Common.{◌≡◌, ◌*◌, ◌+◌, sym, arith, subst, None, slice_get, length}
use Rattle.std.proofs.lemmas.Option.{slice_get-get_or}
use Rattle.etp_theory.specs.Reach.{implies}
use Rattle.etp_closure.specs.Facts.{fact_of}
use Rattle.etp_chain.specs.Edges.{HasEnds, IsGraph}
use Rattle.etp_chain.specs.declared.graph.Graph.{Graph}
use Rattle.etp_chain.proofs.Walks.{contains_at}
use Rattle.etp_chain.proofs.Graphs.{same_turn}
use Rattle.etp_chain.proofs.graph.graph_of.Goals as goal
use Rattle.etp_chain.proofs.graph.graph_of.Goals.{in-Some+in_ok-add_fact-in-Some, in-None}

pub loop-file-init : goal.loop-file-init
loop-file-init g c = record {
  ready = c.in_ok-graph.ensures.ready;
  edges = c.in_ok-graph.ensures.edges c.args.duals.now (g.L.Facts.said c.args.facts.now);
}

pub add_fact-requires-clause-fact_in : goal.add_fact-requires-clause-fact_in
add_fact-requires-clause-fact_in g c =
    c.requires.facts_in (fact_of c.in-Some.fact.now)
    (contains_at (g.L.Facts.said c.args.facts.now) c.loop-file.file (fact_of c.in-Some.fact.now) (sym c.in-Some.ensures))

pub loop-file-preserved : goal.loop-file-preserved
loop-file-preserved g c =
    let said = g.L.Facts.said c.args.facts.now in
    let duals = c.args.duals.now in
    let file = c.loop-file.file in
    elim c.match-fact.branch [
      | in-Some+in_ok-add_fact-in-Some w ↦
          let after = w.add_fact.new.self in
          let P : Graph → Type 0 = λ graph. record { ready : HasEnds (length duals + 1) graph; edges : IsGraph duals said (2 * (file + 1)) graph } in
          let edges = w.in_ok-add_fact-in-Some.ensures.edges said (sym w.in-Some.ensures) c.loop-file.invariant.edges in
          subst P (sym w.graph-is) record {
            ready = w.in_ok-add_fact-in-Some.ensures.ready;
            edges = same_turn duals said (2 * file + 1 + 1) (2 * (file + 1)) after.hypotheses.laws.items after.goals.laws.items after.sources.items (omega arith) edges;
          }
      | in-None w ↦
          let d = implies 0 0 in
          let is = slice_get-get_or said file d (omega (arith, c.loop-file-test.true, c.count-file-end.ensures)) in
          let none : None ≡ slice_get said file = w.in-None.ensures in
          absurd (cc (is, none))
    ]

pub returns-clause-edges : goal.returns-clause-edges
returns-clause-edges g c =
    let said = g.L.Facts.said c.args.facts.now in
    let graph = c.loop-file.graph in
    same_turn c.args.duals.now said (2 * c.loop-file.file) (2 * length said) graph.hypotheses.laws.items graph.goals.laws.items graph.sources.items
    (omega (arith, c.loop-file-test.false, c.count-file-end.ensures)) c.loop-file.invariant.edges
