use Rattle.etp_chain.proofs.Graphs.{edges_more}
use Rattle.etp_chain.proofs.graph.Graph.add.Goals as goal

pub returns-clause-edges : goal.returns-clause-edges
returns-clause-edges c = λ duals facts h gives.
    rw (c.in_ok-push.ensures.pushed, c.in_ok-push-2.ensures.pushed, c.in_ok-push-3.ensures.items)
    (edges_more c.args.self.now.hypotheses.laws.items c.args.self.now.goals.laws.items c.args.self.now.sources.items
    c.args.hypothesis c.args.goal c.args.file c.args.dual duals facts h gives)
