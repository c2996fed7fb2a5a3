use Rattle.std.proofs.Common.{ℕ, List, length, sym, subst}
use Rattle.etp_closure.specs.Closures.{Known, StandsFor}
use Rattle.etp_chain.specs.Evidence.{NamesLaws}
use Rattle.etp_ledger.specs.Files.{facts_of}
use Rattle.etp_ledger.proofs.FactLaws.{names_laws}
use Rattle.etp_ledger.proofs.ledger.Ledger.cover.Goals as goal

pub why_refuted-requires-clause-facts_in : goal.why_refuted-requires-clause-facts_in
why_refuted-requires-clause-facts_in c =
    let facts = facts_of c.args.self.now.files in
    let stands = subst (λ (k : Known). StandsFor k facts) (sym c.closure-closure.ensures.value) c.closure-closure.ensures.stands in
    λ fact there. subst (λ (d : List ℕ). NamesLaws (length d) fact) (sym c.duals.ensures.value) (names_laws c.closure-closure.result.now facts stands c.duals.ensures.kept fact there)
