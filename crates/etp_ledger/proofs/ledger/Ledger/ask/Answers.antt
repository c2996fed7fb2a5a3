use Rattle.std.proofs.Common.{sym, subst, rules}
use Rattle.etp_laws.specs.Listing.{IsTheList}
use Rattle.etp_theory.specs.LawNumbers.{IsLaw}
use Rattle.etp_ledger.specs.Files.{facts_of}
use Rattle.etp_ledger.specs.Kept.{files_of}
use Rattle.etp_ledger.specs.Ledgers.{Entries}
use Rattle.etp_ledger.proofs.Meaning.{means}
use Rattle.etp_ledger.proofs.ledger.Ledger.ask.Goals as goal

pub returns-clause-means : goal.returns-clause-means
returns-clause-means c = λ laws list.
    let i = c.self.inside in
    let e_in : IsLaw c.size-size.result c.args.e = search rules in
    let f_in : IsLaw c.size-size.result c.args.f = search rules in
    means i.order (files_of i.files.entries) i.closure c.self.invariant laws (subst (λ (v : Entries). IsTheList v.order laws) (sym c.self.view_is) list) c.args.e c.args.f (subst (λ n. IsLaw n c.args.e) c.size-size.ensures e_in) (subst (λ n. IsLaw n c.args.f) c.size-size.ensures f_in) c.answer.result (c.answer.ensures.says (facts_of (files_of i.files.entries)) c.self.invariant.stands)
