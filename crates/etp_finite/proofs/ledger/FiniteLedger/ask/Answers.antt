use Rattle.std.proofs.Common.{subst, rules}
use Rattle.etp_theory.specs.LawNumbers.{IsLaw}
use Rattle.etp_finite.specs.Files.{facts_of}
use Rattle.etp_finite.specs.Kept.{files_of}
use Rattle.etp_finite.proofs.Meaning.{means}
use Rattle.etp_finite.proofs.ledger.FiniteLedger.ask.Goals as goal

pub returns-clause-means : goal.returns-clause-means
returns-clause-means c = λ laws list.
    let i = c.self.inside in
    let e_in : IsLaw c.size-size.result c.args.e = search rules in
    let f_in : IsLaw c.size-size.result c.args.f = search rules in
    means (files_of i.files.entries) i.closure c.self.invariant laws list c.args.e c.args.f (subst (λ n. IsLaw n c.args.e) c.size-size.ensures e_in) (subst (λ n. IsLaw n c.args.f) c.size-size.ensures f_in) c.answer.result (c.answer.ensures.says (facts_of (files_of i.files.entries)) c.self.invariant.stands)
