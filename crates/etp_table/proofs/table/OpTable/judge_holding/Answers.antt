use Rattle.std.proofs.Common.{◌≡◌, All, length, take, ap, ◌∙◌, subst, arith}
use Rattle.std.proofs.Math.Seq.{take-length}
use Rattle.std.proofs.lemmas.List.Elements.{All-more}
use Rattle.etp_table.specs.Judgements.{LawHolds}
use Rattle.etp_table.proofs.table.OpTable.judge_holding.Goals as goal

pub loop-number-preserved : goal.loop-number-preserved
loop-number-preserved c =
    All-more (LawHolds c.args.laws.now.equations c.args.self.now) c.args.holds.now c.loop-number.number-index 0 c.loop-number-test.true c.loop-number.invariant c.in_ok-judge_held.ensures.ok

pub returns-clause-ok : goal.returns-clause-ok
returns-clause-ok c =
    let whole : c.loop-number.number-index ≡ length c.args.holds.now = omega arith in
    subst (All (LawHolds c.args.laws.now.equations c.args.self.now)) (ap (λ k. take k c.args.holds.now) whole ∙ take-length c.args.holds.now) c.loop-number.invariant
