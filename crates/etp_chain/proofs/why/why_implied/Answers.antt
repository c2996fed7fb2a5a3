use Rattle.std.proofs.Common.{◌≡◌, ◌∙◌, ◌<◌, length, get_or, sym, arith}
use Rattle.std.proofs.lemmas.Grind.{get_or_default_zero}
use Rattle.etp_chain.proofs.Distances.{walks_found}
use Rattle.etp_chain.proofs.why.why_implied.Goals as goal

pub returns-then-index-eq0 : goal.returns-then-index-eq0
returns-then-index-eq0 g c = λ r.
    let graph = c.in_ok-graph.graph in
    let found = c.in_ok-found.found.items in
    let e_in : c.args.e < length found = omega (arith, c.in_ok-found.ensures.size, c.requires.e_in.to_last) in
    let none : get_or found c.args.e 0 ≡ 0 =
    sym (get_or_default_zero found c.args.e c.index.result.now e_in) ∙ (sym c.index.ensures ∙ c.if-index-eq0.true) in
    let is = walks_found c.args.duals.now (g.L.Facts.said c.args.facts.now) graph.hypotheses.laws.items graph.goals.laws.items graph.sources.items
    c.in_ok-graph.ensures.edges c.args.f found c.in_ok-found.ensures.searched c.args.e r in
    omega (arith, none, is)
