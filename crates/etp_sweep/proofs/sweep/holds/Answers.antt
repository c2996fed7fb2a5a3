use Rattle.std.proofs.Common.{◌≡◌, ◌⊎◌, sym, subst}
use Rattle.etp_theory.specs.Trees.{Equation}
use Rattle.etp_term.specs.Laws.{equation_of}
use Rattle.etp_laws.proofs.Entries.{Listed-entry, small_entry}
use Rattle.etp_table.specs.Verdicts.{HoldsIn}
use Rattle.etp_sweep.proofs.Sweeping.{all_looked_at}
use Rattle.etp_sweep.proofs.sweep.holds.Goals as goal

pub returns-in-Holds-clause-yes : goal.returns-in-Holds-clause-yes
returns-in-Holds-clause-yes c = λ _.
    let law = equation_of c.in-Some.law.now in
    let laws = c.args.laws.now in
    let listed = Listed-entry laws.order laws.equations c.args.number law c.in-Some.ensures.list (sym c.in-Some.ensures.entry) in
    let small = small_entry laws.order laws.equations c.args.number law c.in-Some.ensures.list (sym c.in-Some.ensures.entry) in
    let order = subst (λ k. (k ≡ 4) ⊎ (k ≡ 5)) c.order-order.ensures.order c.order-order.ensures.known in
    record {
      law = law;
      listed = sym c.in-Some.ensures.entry;
      holds = c.in-Holds.ensures.tells (all_looked_at laws.order c.args.table.now law order listed small c.requires);
    }

pub returns-in-Fails-clause-no : goal.returns-in-Fails-clause-no
returns-in-Fails-clause-no c = λ _ h.
    let stands = h.listed in
    let entry = c.in-Some.ensures.entry in
    let same : h.law ≡ equation_of c.in-Some.law.now = cc in
    c.in-Fails.ensures.tells (subst (λ (e : Equation). HoldsIn c.args.table.now e) same h.holds)
