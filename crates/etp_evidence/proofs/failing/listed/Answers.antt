use Rattle.std.proofs.Common.{◌≡◌, ◌⊎◌, sym, subst}
use Rattle.etp_term.specs.Laws.{equation_of}
use Rattle.etp_laws.proofs.SmallLaws.{listed_small}
use Rattle.etp_evidence.proofs.failing.listed.Goals as goal

pub returns-clause-left_variables : goal.returns-clause-left_variables
returns-clause-left_variables c = (listed_small c.args.laws.now.order c.args.laws.now.equations c.args.number (equation_of c.in-Some.law.now) c.order-order.ensures.list (subst (λ k. (k ≡ 4) ⊎ (k ≡ 5)) c.order-order.ensures.order c.order-order.ensures.known) (sym c.in-Some.ensures.entry)).left_variables

pub returns-clause-right_variables : goal.returns-clause-right_variables
returns-clause-right_variables c = (listed_small c.args.laws.now.order c.args.laws.now.equations c.args.number (equation_of c.in-Some.law.now) c.order-order.ensures.list (subst (λ k. (k ≡ 4) ⊎ (k ≡ 5)) c.order-order.ensures.order c.order-order.ensures.known) (sym c.in-Some.ensures.entry)).right_variables
