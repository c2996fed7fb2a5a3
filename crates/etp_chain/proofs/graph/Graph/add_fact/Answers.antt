use Rattle.std.proofs.Common.{◌∙◌, ap, refl, Some}
use Rattle.etp_closure.specs.declared.facts.Fact.{Fact}
use Rattle.etp_closure.specs.Facts.{fact_of}
use Rattle.etp_chain.proofs.Graphs.{no_more}
use Rattle.etp_chain.proofs.graph.Graph.add_fact.Goals as goal

pub returns-in-Refutes-clause-edges : goal.returns-in-Refutes-clause-edges
returns-in-Refutes-clause-edges c = λ facts said h.
    let self = c.args.self.now in
    no_more c.args.duals.now facts c.args.file self.hypotheses.laws.items self.goals.laws.items self.sources.items
    c.in-Refutes.holds c.in-Refutes.fails (said ∙ ap (λ (x : Fact). Some (fact_of x)) c.in-Refutes.is) h

pub returns-in_ok-add-in-Implies-clause-edges : goal.returns-in_ok-add-in-Implies-clause-edges
returns-in_ok-add-in-Implies-clause-edges c = λ facts said h.
    let is = said ∙ ap (λ (x : Fact). Some (fact_of x)) c.in-Implies.is in
    let duals = c.args.duals.now in
    let plain = c.in_ok-add-in-Implies.ensures.edges duals facts h
    record { hypothesis = c.in-Implies.hypothesis; goal = c.in-Implies.goal; said = is; from = refl; to = refl } in
    c.add-in-Implies.ensures.edges duals facts plain
    record { hypothesis = c.in-Implies.hypothesis; goal = c.in-Implies.goal; said = is; from = refl; to = refl }
