use Rattle.std.proofs.Common.{sym, subst}
use Rattle.etp_laws.specs.Listing.{IsTheList}
use Rattle.etp_desk.proofs.opened.Opened.start.Goals as goal

pub returns-clause-agrees : goal.returns-clause-agrees
returns-clause-agrees c = record {
  list = subst (λ k. IsTheList k c.in_ok-laws.laws.equations) (sym c.in_ok-laws.ensures.order) c.in_ok-laws.ensures.list;
  same_order = c.in_ok-ledger.ensures.order;
  same_duals = c.in_ok-ledger.ensures.duals;
  same_size = c.in_ok-ledger.ensures.size;
}
