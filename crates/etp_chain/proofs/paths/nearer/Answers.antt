use Rattle.std.proofs.Common.{◌≡◌, ◌∙◌, ◌<◌, ◌≤◌, ℕ, ◌-◌, get_or, subst, sym, arith, length, List, Option, IfSome, IsTrue}
use Rattle.std.proofs.lemmas.Grind.{get_or_default_zero}
use Rattle.etp_chain.specs.Searches.{IsNearer}
use Rattle.etp_chain.proofs.Levels.{last_before}
use Rattle.etp_chain.proofs.Nearer.{Looking, looks_past, looks_at, looked_at_all}
use Rattle.etp_chain.proofs.paths.nearer.Goals as goal
use Rattle.etp_chain.proofs.paths.nearer.Goals.{then-is_nearer+then-is_at_most, else-is_nearer, else-is_nearer-via-then-is_nearer+else-is_at_most, else-is_nearer-via-else-is_nearer}

pub edges-preserved : goal.edges-preserved
edges-preserved c =
    let from = c.args.from.now.laws.items in
    let to = c.args.to.now.laws.items in
    let found = c.args.found.now in
    let law = c.args.law in
    let s = c.edges.invariant in
    let last = c.edges.last in
    let best = c.edges.best in
    let before = c.before-last.result in
    let some = c.edges-test.true in
    let b = last_before from law last before some s.stands c.before-last.ensures in
    let within : last - 1 < length to = omega (arith, some, s.within, c.requires.same_length) in
    let is : c.index.result.now ≡ get_or to (last - 1) 0 = c.index.ensures ∙ get_or_default_zero to (last - 1) c.index.result.now within in
    let P : ℕ → Type 0 = λ x. IsNearer found law x in
    let Q : Option ℕ → Type 0 = λ o. Looking from to found law before o in
    let R : List ℕ → Type 0 = λ xs. IfSome best (λ at. get_or xs (last - 1) 0 ≤ get_or xs at 0) in
    elim c.if-is_nearer.branch [
      | then-is_nearer+then-is_at_most w ↦
          let near = subst P is (c.is_nearer.ensures.0 w.if-is_nearer.true) in
          let at_most = subst R w.deref.ensures.value (w.is_at_most.ensures.0 w.if-is_at_most.true) in
          subst Q (sym w.best-is) (looks_at from to found law last before best s some c.requires.same_length b near at_most)
      | else-is_nearer w ↦
          subst Q (sym w.best-is)
          (looks_past from to found law last before best s b (λ near at_most.
          elim w.else-is_nearer.branch [
            | else-is_nearer-via-then-is_nearer+else-is_at_most v ↦
                let yes : IsTrue v.is_at_most.result = v.is_at_most.ensures.1 (subst R (sym v.deref.ensures.value) at_most) in
                absurd (cc (yes, v.if-is_at_most.false))
            | else-is_nearer-via-else-is_nearer v ↦
                let yes : IsTrue c.is_nearer.result = c.is_nearer.ensures.1 (subst P (sym is) near) in
                absurd (cc (yes, v.if-is_nearer.false))
          ]))
    ]

pub returns : goal.returns
returns c =
    let from = c.args.from.now.laws.items in
    let to = c.args.to.now.laws.items in
    let P : ℕ → Type 0 = λ x. Looking from to c.args.found.now c.args.law x c.edges.best in
    looked_at_all from to c.args.found.now c.args.law c.edges.best (subst P (omega (arith, c.edges-test.false)) c.edges.invariant)
