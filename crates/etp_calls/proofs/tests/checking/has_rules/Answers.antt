use Rattle.std.proofs.Common.{◌≡◌, length, arith}
use Rattle.std.proofs.lemmas.List.{length-map}
use Rattle.etp_rules.specs.Rules.{rule_of, rules_of}
use Rattle.etp_calls.proofs.tests.checking.has_rules.Goals as goal

pub returns : goal.returns
returns c = λ yes.
    let one : length (rules_of c.args.rules.now) ≡ 1 = omega (arith, length-map c.args.rules.now rule_of, c.if-len-ne1.false, c.len.ensures) in
    record { some = omega (arith, one); few = omega (arith, one); small = c.has_small_variables.ensures yes }
