use Rattle.std.proofs.Common.{◌≡◌, ◌+◌, ◌++◌, ◌∷◌, [], ℕ, List, length, sym, subst, ◌∙◌, arith}
use Rattle.etp_sweep.proofs.Sweeping.{Swept, swept_more, swept_left, swept_all}
use Rattle.etp_sweep.proofs.sweep.profile.Goals as goal
use Rattle.etp_sweep.proofs.sweep.profile.Goals.{then-holds+in_ok-push, else-holds}

pub loop-before-preserved : goal.loop-before-preserved
loop-before-preserved c =
    let laws = c.args.laws.now.equations in
    let table = c.args.table.now in
    let numbers = c.loop-before.numbers in
    let n = c.loop-before.before in
    elim c.if-holds.branch [
      | then-holds+in_ok-push w ↦
          let is : c.if-holds.numbers ≡ numbers ++ (n + 1) ∷ [] = w.numbers-is ∙ w.in_ok-push.ensures.ok in
          subst (λ (xs : List ℕ). Swept laws table xs (n + 1)) (sym is) (swept_more laws table numbers n c.loop-before.invariant (c.holds.ensures.yes w.if-holds.true))
      | else-holds w ↦
          subst (λ (xs : List ℕ). Swept laws table xs (n + 1)) (sym w.numbers-is) (swept_left laws table numbers n c.loop-before.invariant (c.holds.ensures.no w.if-holds.false))
    ]

pub returns-clause-exact : goal.returns-clause-exact
returns-clause-exact c =
    let len = c.count-before-end.ensures.len in
    let whole : c.loop-before.before ≡ length c.args.laws.now.equations = omega arith in
    swept_all c.args.laws.now.equations c.args.table.now c.loop-before.numbers c.loop-before.before whole c.loop-before.invariant
