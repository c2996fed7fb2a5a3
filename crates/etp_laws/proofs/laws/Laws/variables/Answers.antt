use Rattle.std.proofs.Common.{sym, arith}
use Rattle.etp_term.specs.Laws.{equation_of}
use Rattle.etp_laws.proofs.Entries.{small_entry}
use Rattle.etp_laws.proofs.laws.Laws.variables.Goals as goal

pub variables_of-requires-clause-small : goal.variables_of-requires-clause-small
variables_of-requires-clause-small c =
    let small = small_entry c.args.self.now.order c.args.self.now.equations c.args.n (equation_of c.in-Some.law.now) c.in-Some.ensures.list (sym c.in-Some.ensures.entry) in
    let e = c.order-order.ensures.order in
    let k = c.order-order.ensures.known in
    grind arith

pub returns-in-Some-clause-few : goal.returns-in-Some-clause-few
returns-in-Some-clause-few c =
    let small = small_entry c.args.self.now.order c.args.self.now.equations c.args.n (equation_of c.in-Some.law.now) c.in-Some.ensures.list (sym c.in-Some.ensures.entry) in
    let few = c.variables_of.ensures.few in
    omega arith
