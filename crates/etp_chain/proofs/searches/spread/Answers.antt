use Rattle.std.proofs.Common.{◌≡◌, ◌∙◌, ℕ, get_or, subst, sym, arith, inl, inr, Contains}
use Rattle.std.proofs.lemmas.Bool.{cases_eq}
use Rattle.std.proofs.lemmas.List.Elements.{Contains-get_or}
use Rattle.std.proofs.lemmas.Grind.{get_or_default_zero}
use Rattle.etp_chain.specs.Searches.{Leads}
use Rattle.etp_chain.proofs.Levels.{grows_then, still_found}
use Rattle.etp_chain.proofs.searches.spread.Goals as goal

pub loop-law-preserved : goal.loop-law-preserved
loop-law-preserved c =
    let from = c.args.from.now.laws.items in
    let to = c.args.to.now.laws.items in
    let level = c.args.level.now in
    let i = c.loop-law.law-index in
    let inv = c.loop-law.invariant in
    let step = c.in_ok-spread_law.ensures in
    let in_level : Contains level (get_or level i 0) = Contains-get_or level i 0 c.loop-law-test.true in
    record {
      grows = grows_then c.args.found.now c.loop-law.found c.spread_law.new.found c.args.next.now.items c.loop-law.next.items c.spread_law.new.next.items inv.grows step.grows;
      spread = λ start h. step.spread start level in_level (inv.spread start h);
      done = λ a b k leads below is.
          elim (cases_eq k i) [
            | inl same ↦
                let P : ℕ → Type 0 = λ x. Leads from to x b in
                let Q : ℕ → Type 0 = λ x. get_or level x 0 ≡ a in
                let here : get_or level i 0 ≡ a = subst Q same is in
                step.done b (subst P (sym here) leads)
            | inr apart ↦
                still_found c.loop-law.found c.spread_law.new.found c.loop-law.next.items c.spread_law.new.next.items b step.grows
                (inv.done a b k leads (omega (arith, below, apart)) is)
          ];
    }

pub returns-clause-done : goal.returns-clause-done
returns-clause-done c = λ a b leads is.
    c.loop-law.invariant.done a b is.0 leads (omega (arith, is.1, c.loop-law-test.false))
    (sym (get_or_default_zero c.args.level.now is.0 a is.1) ∙ is.2)
