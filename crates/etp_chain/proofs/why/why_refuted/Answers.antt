use Rattle.std.proofs.Common.{ℕ, List, sym, subst}
use Rattle.etp_chain.specs.Searches.{IsSearched}
use Rattle.etp_chain.proofs.Covering.{not_covered, fails_found, is_cover}
use Rattle.etp_chain.proofs.why.why_refuted.Goals as goal

pub returns-in-None : goal.returns-in-None
returns-in-None g c =
    let graph = c.in_ok-graph.graph in
    let from = graph.hypotheses.laws.items in
    let to = graph.goals.laws.items in
    let P : List ℕ → Type 0 = IsSearched to from c.args.e in
    let Q : List ℕ → Type 0 = IsSearched from to c.args.f in
    let reaching = subst P (sym c.deref.ensures.value) c.in_ok-reaching.ensures.searched in
    let reached = subst Q (sym c.deref-2.ensures.value) c.in_ok-reached.ensures.searched in
    not_covered c.args.duals.now (g.L.Facts.said c.args.facts.now) from to graph.sources.items c.in_ok-graph.ensures.edges
    c.args.e c.args.f c.deref.result.now c.deref-2.result.now reaching reached c.in-None.ensures

pub path_from-requires-2-clause-is_found : goal.path_from-requires-2-clause-is_found
path_from-requires-2-clause-is_found g c =
    let graph = c.in_ok-graph.graph in
    let from = graph.hypotheses.laws.items in
    let to = graph.goals.laws.items in
    let P : List ℕ → Type 0 = IsSearched to from c.args.e in
    let Q : List ℕ → Type 0 = IsSearched from to c.args.f in
    let R : List ℕ → Type 0 = IsSearched to from c.in-Some.pair.fails in
    let reaching = subst P (sym c.deref.ensures.value) c.in_ok-reaching.ensures.searched in
    let reached = subst Q (sym c.deref-2.ensures.value) c.in_ok-reached.ensures.searched in
    let found = subst R (sym c.deref-4.ensures.value) c.in_ok-found.ensures.searched in
    fails_found c.args.duals.now (g.L.Facts.said c.args.facts.now) from to graph.sources.items c.in_ok-graph.ensures.edges
    c.args.e c.args.f c.deref.result.now c.deref-2.result.now reaching reached c.in-Some.pair.fails c.deref-4.result.now found
    c.in-Some.ensures.least.has_fail

pub returns : goal.returns
returns g c =
    let duals = c.args.duals.now in
    let said = g.L.Facts.said c.args.facts.now in
    let graph = c.in_ok-graph.graph in
    let edges = c.in_ok-graph.ensures.edges in
    let from = graph.hypotheses.laws.items in
    let to = graph.goals.laws.items in
    let pair = c.in-Some.pair in
    let P : List ℕ → Type 0 = IsSearched to from c.args.e in
    let Q : List ℕ → Type 0 = IsSearched from to c.args.f in
    let R : List ℕ → Type 0 = IsSearched to from pair.fails in
    let searched = c.in_ok-reaching.ensures.searched in
    let reaching = subst P (sym c.deref.ensures.value) searched in
    let reached = subst Q (sym c.deref-2.ensures.value) c.in_ok-reached.ensures.searched in
    let before = c.in_ok-before.ensures duals said c.args.e edges (subst P (sym c.deref-3.ensures.value) searched) in
    let after = c.in_ok-after.ensures duals said pair.fails edges (subst R (sym c.deref-4.ensures.value) c.in_ok-found.ensures.searched) in
    is_cover duals said from to graph.sources.items edges c.args.e c.args.f c.deref.result.now c.deref-2.result.now reaching reached
    pair.file pair.dual pair.holds pair.fails c.in_ok-before.before c.in_ok-after.after c.in-Some.ensures before after
