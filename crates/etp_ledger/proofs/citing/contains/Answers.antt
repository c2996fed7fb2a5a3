use Rattle.std.proofs.Common.{◌≢◌, List, ℕ, Some, All, Contains, true≢false, sym, ap, ◌∙◌, refl, arith, subst}
use Rattle.etp_ledger.proofs.Lists.{get_contains, contains_get, all_at, all_next, take_whole}
use Rattle.etp_ledger.proofs.Naming.{same_bytes, other_bytes}
use Rattle.etp_ledger.proofs.citing.contains.Goals as goal

pub returns-then-eq : goal.returns-then-eq
returns-then-eq c =
    let same = same_bytes c.cite_at.result.now c.args.name.now (sym c.eq.ensures ∙ c.if-eq.true) in
    (λ _. get_contains c.args.cites.now c.loop-at.at c.args.name.now (c.cite_at.ensures ∙ ap Some same), λ _. refl)

pub loop-at-preserved : goal.loop-at-preserved
loop-at-preserved c =
    all_next (λ cite. cite ≢ c.args.name.now) c.args.cites.now c.loop-at.at c.cite_at.result.now c.cite_at.ensures c.loop-at.invariant (other_bytes c.cite_at.result.now c.args.name.now (sym c.eq.ensures ∙ c.if-eq.false))

pub returns : goal.returns
returns c =
    let whole = take_whole c.args.cites.now c.loop-at.at (omega (arith, c.len-at-end.ensures)) in
    let all = subst (All (λ (cite : List ℕ). cite ≢ c.args.name.now)) whole c.loop-at.invariant in
    (λ h. absurd (true≢false (sym h)), λ (there : Contains c.args.cites.now c.args.name.now). let at = contains_get c.args.cites.now c.args.name.now there in absurd (all_at (λ cite. cite ≢ c.args.name.now) c.args.cites.now at.0 c.args.name.now all at.1 refl))
