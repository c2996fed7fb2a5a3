use Rattle.std.proofs.Common.{◌≡◌, ◌∙◌, ◌<◌, ℕ, ◌-◌, get_or, subst, sym, ap, arith, rules, length, List, Vec, Global}
use Rattle.std.proofs.lemmas.Grind.{get_or_default_zero}
use Rattle.etp_chain.specs.Searches.{IsFound}
use Rattle.etp_chain.proofs.Levels.{Spreading, last_before, spreads_kept, spreads_call}
use Rattle.etp_chain.proofs.searches.spread_law.Goals as goal
use Rattle.etp_chain.proofs.searches.spread_law.Goals.{then-found-other-eq0+in_ok-find, else-found-other-eq0}

pub edges-preserved : goal.edges-preserved
edges-preserved c =
    let from = c.args.from.now.laws.items in
    let to = c.args.to.now.laws.items in
    let s = c.edges.invariant in
    let last = c.edges.last in
    let other = c.index-other.result.now in
    let b = last_before from c.args.law last c.before-last.result c.edges-test.true s.stands c.before-last.ensures in
    let within : last - 1 < length to = omega (arith, c.edges-test.true, s.within, c.requires.same_length) in
    let is : other ≡ get_or to (last - 1) 0 = c.index-other.ensures ∙ get_or_default_zero to (last - 1) other within in
    let first = c.args.found.now in
    let begun = c.args.next.now.items in
    let before = c.before-last.result in
    elim c.if-found-other-eq0.branch [
      | then-found-other-eq0+in_ok-find w ↦
          spreads_call from to c.args.law c.args.code first c.edges.found begun c.edges.next.items last before
          other c.if-found-other-eq0.found c.if-found-other-eq0.next.items is
          (w.found-is ∙ w.in_ok-find.ensures.set) (ap (λ (v : Vec ℕ Global). v.items) w.next-is ∙ w.in_ok-find.ensures.pushed)
          s c.edges-test.true b w.if-found-other-eq0.true (search rules)
      | else-found-other-eq0 w ↦
          let P : List ℕ → Type 0 = λ xs. Spreading from to c.args.law c.args.code first xs begun c.if-found-other-eq0.next.items before in
          let Q : List ℕ → Type 0 = λ xs. Spreading from to c.args.law c.args.code first c.edges.found begun xs before in
          let R : ℕ → Type 0 = λ x. IsFound c.edges.found x in
          let found : IsFound c.edges.found other = omega (arith, w.if-found-other-eq0.false) in
          subst P (sym w.found-is)
          (subst Q (sym (ap (λ (v : Vec ℕ Global). v.items) w.next-is))
          (spreads_kept from to c.args.law c.args.code first c.edges.found begun c.edges.next.items last before s c.edges-test.true b (subst R is found)))
    ]
