use Rattle.std.proofs.Common.{◌≡◌, ◌<◌, ◌++◌, ◌∷◌, ◌⊎◌, [], ℕ, List, length, ap, sym, ◌∙◌, subst, rules}
use Rattle.etp_items.specs.Bodies.{body_of}
use Rattle.etp_check.specs.Checks.{HasLaws}
use Rattle.etp_ledger.specs.Accepting.{IsAccepted}
use Rattle.etp_ledger.specs.Ledgers.{Entries}
use Rattle.etp_ledger.specs.Kept.{files_of}
use Rattle.etp_ledger.proofs.Meaning.{same_order, cited_numbers, fact_laws, one_more}
use Rattle.etp_ledger.proofs.ledger.Ledger.accept.Goals as goal

pub prove-unreachable-requires : goal.prove-unreachable-requires
prove-unreachable-requires c =
    let i = c.self.inside in
    let known = subst (λ n. (n ≡ 4) ⊎ (n ≡ 5)) c.order-order.ensures.order c.order-order.ensures.known in
    let long = c.requires.laws ∙ ap (λ (v : Entries). length v.closure.duals) (sym c.self.view_is) in
    c.if-prove.true (c.order-order.ensures.order ∙ same_order i.order (files_of i.files.entries) i.closure c.self.invariant c.args.laws.now.order c.args.laws.now.equations known c.order-order.ensures.list long)

pub check-requires-clause-cited : goal.check-requires-clause-cited
check-requires-clause-cited c =
    let i = c.self.inside in
    let known = subst (λ n. (n ≡ 4) ⊎ (n ≡ 5)) c.order-order.ensures.order c.order-order.ensures.known in
    let long = c.requires.laws ∙ ap (λ (v : Entries). length v.closure.duals) (sym c.self.view_is) in
    cited_numbers i.order (files_of i.files.entries) i.closure c.self.invariant c.args.laws.now.order c.args.laws.now.equations known c.order-order.ensures.list long (body_of c.args.body) c.as_slice-2.result.now c.in_ok-cited.ensures.ok (c.as_slice-2.ensures.value ∙ c.in_ok-cited.ensures.goals)

pub store-requires-clause-laws : goal.store-requires-clause-laws
store-requires-clause-laws c =
    let i = c.self.inside in
    let known = subst (λ n. (n ≡ 4) ⊎ (n ≡ 5)) c.order-order.ensures.order c.order-order.ensures.known in
    let long = c.requires.laws ∙ ap (λ (v : Entries). length v.closure.duals) (sym c.self.view_is) in
    subst (HasLaws (length i.closure.duals)) (sym c.in-Ok.ensures.fact) (fact_laws i.order (files_of i.files.entries) i.closure c.self.invariant c.args.laws.now.order c.args.laws.now.equations known c.order-order.ensures.list long (body_of c.args.body) c.requires.listed)

pub invariant_of-self-2 : goal.invariant_of-self-2
invariant_of-self-2 c =
    let i = c.self.inside in
    let known = subst (λ n. (n ≡ 4) ⊎ (n ≡ 5)) c.order-order.ensures.order c.order-order.ensures.known in
    let long = c.requires.laws ∙ ap (λ (v : Entries). length v.closure.duals) (sym c.self.view_is) in
    let few : length (files_of i.files.entries) < 4294967295 = subst (λ (v : Entries). length v.files < 4294967295) (sym c.self.view_is) c.requires.few in
    let one : IsAccepted c.args.laws.now.equations (files_of i.files.entries) c.args.name (body_of c.args.body) = search rules in
    one_more i.order (files_of i.files.entries) i.closure c.self.invariant c.args.laws.now.order c.args.laws.now.equations known c.order-order.ensures.list long c.args.name (body_of c.args.body) (files_of c.store.new.files.entries) c.store.new.closure one few (c.in_ok-store.ensures.files ∙ ap (λ (n : List ℕ). files_of i.files.entries ++ record { name = n; body = body_of c.args.body } ∷ []) (c.in_ok-key.ensures.items ∙ c.as_slice-3.ensures.value)) c.store.ensures.duals c.store.ensures.stands
