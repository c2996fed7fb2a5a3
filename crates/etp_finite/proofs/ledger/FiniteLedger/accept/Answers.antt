use Rattle.std.proofs.Common.{◌≡◌, ◌<◌, ◌++◌, ◌∷◌, [], ℕ, List, length, ap, sym, ◌∙◌, subst, rules}
use Rattle.etp_laws.specs.Listing.{IsTheList}
use Rattle.etp_finite_body.specs.FiniteBodies.{finite_body_of}
use Rattle.etp_finite.specs.Naming.{HasLaws}
use Rattle.etp_finite.specs.Accepting.{IsAccepted}
use Rattle.etp_finite.specs.Ledgers.{Entries}
use Rattle.etp_finite.specs.Kept.{files_of}
use Rattle.etp_finite.proofs.Meaning.{fact_laws, one_more}
use Rattle.etp_finite.proofs.ledger.FiniteLedger.accept.Goals as goal

pub store-requires-clause-laws : goal.store-requires-clause-laws
store-requires-clause-laws c =
    let i = c.self.inside in
    let own : IsTheList 4 c.args.laws.now.equations = subst (λ k. IsTheList k c.args.laws.now.equations) c.requires.order c.order-order.ensures.list in
    subst (HasLaws (length i.closure.duals)) (sym c.in_ok-fact.ensures.fact) (fact_laws (files_of i.files.entries) i.closure c.self.invariant c.args.laws.now.equations own (finite_body_of c.args.body) c.requires.listed)

pub invariant_of-self-2 : goal.invariant_of-self-2
invariant_of-self-2 c =
    let i = c.self.inside in
    let own : IsTheList 4 c.args.laws.now.equations = subst (λ k. IsTheList k c.args.laws.now.equations) c.requires.order c.order-order.ensures.list in
    let few : length (files_of i.files.entries) < 4294967295 = subst (λ (v : Entries). length v.files < 4294967295) (sym c.self.view_is) c.requires.few in
    let one : IsAccepted c.args.laws.now.equations (files_of i.files.entries) c.args.name (finite_body_of c.args.body) = search rules in
    one_more (files_of i.files.entries) i.closure c.self.invariant c.args.laws.now.equations own c.args.name (finite_body_of c.args.body) (files_of c.store.new.files.entries) c.store.new.closure one few (c.in_ok-store.ensures.files ∙ ap (λ (n : List ℕ). files_of i.files.entries ++ record { name = n; body = finite_body_of c.args.body } ∷ []) (c.in_ok-key.ensures.items ∙ c.as_slice-2.ensures.value)) c.store.ensures.duals c.store.ensures.stands
