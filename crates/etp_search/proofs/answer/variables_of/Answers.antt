use Rattle.std.proofs.Common.{sym, subst}
use Rattle.etp_laws.specs.LawLists.{HasVariables}
use Rattle.etp_search.proofs.SearchedSpace.{law_there, counted}
use Rattle.etp_search.proofs.answer.variables_of.Goals as goal

pub returns-clause-exact : goal.returns-clause-exact
returns-clause-exact c =
    let e = c.in-Some.ensures.exact in
    subst (λ p. HasVariables p c.in-Some.count) (sym (law_there c.args.laws.now.equations c.args.number e.0 e.1)) e.2

pub returns-clause-bound : goal.returns-clause-bound
returns-clause-bound c =
    let e = c.in-Some.ensures.exact in
    counted c.args.laws.now.equations c.args.number c.in-Some.count e.0 c.order-order.ensures.list.sound e.1 e.2
