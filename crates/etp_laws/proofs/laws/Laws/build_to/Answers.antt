use Rattle.std.proofs.Common.{map, sym, subst, ◌∙◌, ap, arith}
use Rattle.etp_term.specs.Laws.{equation_of}
use Rattle.etp_laws.specs.Listing.{IsTheList}
use Rattle.etp_laws.proofs.LawItems.{small_laws}
use Rattle.etp_laws.proofs.TheList.{laws_upto_is}
use Rattle.etp_laws.proofs.laws.Laws.build_to.Goals as goal

pub dual_numbers-requires : goal.dual_numbers-requires
dual_numbers-requires c = small_laws c.args.order _ (let h = c.requires in grind arith) (ap (map equation_of) c.as_slice.ensures ∙ c.in_ok-laws.ensures)

pub returns-clause-list : goal.returns-clause-list
returns-clause-list c = subst (IsTheList c.args.order) (sym c.in_ok-laws.ensures) (laws_upto_is c.args.order)
