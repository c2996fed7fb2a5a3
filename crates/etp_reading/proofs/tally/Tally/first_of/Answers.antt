use Rattle.std.proofs.lemmas.List.{take_all}
use Rattle.std.proofs.Common.{◌≤◌, length, All, subst, arith}
use Rattle.etp_theory.specs.LawNumbers.{IsLaw}
use Rattle.etp_reading.proofs.FirstOf.{one_more, first_at}
use Rattle.etp_reading.proofs.tally.Tally.first_of.Goals as goal

pub returns-then-not-is_listed : goal.returns-then-not-is_listed
returns-then-not-is_listed c =
    first_at c.args.self.now.count c.args.numbers.now c.loop-number.number-index c.loop-number-test.true c.loop-number.invariant
    (λ h. let t = c.is_listed.ensures.1 h in let f = c.if-not-is_listed.true in cc)

pub loop-number-preserved : goal.loop-number-preserved
loop-number-preserved c =
    one_more (IsLaw c.args.self.now.count) c.args.numbers.now c.loop-number.number-index c.loop-number-test.true c.loop-number.invariant
    (c.is_listed.ensures.0 c.if-not-is_listed.false)

pub returns : goal.returns
returns c =
    let done : length c.args.numbers.now ≤ c.loop-number.number-index = omega (arith, c.loop-number-test.false) in
    subst (All (IsLaw c.args.self.now.count)) (take_all c.loop-number.number-index c.args.numbers.now done) c.loop-number.invariant
