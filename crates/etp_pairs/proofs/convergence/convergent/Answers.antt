use Rattle.std.proofs.Common.{◌≡◌, length, arith}
use Rattle.std.proofs.lemmas.List.{length-map}
use Rattle.std.proofs.lemmas.Result.{err_from_is_err_and}
use Rattle.etp_rules.specs.Rules.{rule_of, rules_of}
use Rattle.etp_rules.specs.Weighing.{weight_of}
use Rattle.etp_rules.proofs.Usable.{all_decrease}
use Rattle.etp_pairs.proofs.Order.{one_outer_more, all_pass, refused}
use Rattle.etp_pairs.proofs.convergence.convergent.Goals as goal

pub returns-in_err-check_outer-clause-err : goal.returns-in_err-check_outer-clause-err
returns-in_err-check_outer-clause-err c =
    let p = err_from_is_err_and c.from_residual.result c.from_residual.ensures.1 in
    rw (p.1, p.2) (refused (rules_of c.args.system.now.rules) c.loop-at.at c.loop-at.invariant c.in_err-check_outer.field-0.0 c.in_err-check_outer.ensures.err)

pub loop-at-preserved : goal.loop-at-preserved
loop-at-preserved c = one_outer_more (rules_of c.args.system.now.rules) c.loop-at.at c.loop-at.invariant c.in_ok-check_outer.ensures.ok

pub returns-clause-ok : goal.returns-clause-ok
returns-clause-ok c =
    let size : length (rules_of c.args.system.now.rules) ≡ length c.args.system.now.rules = length-map c.args.system.now.rules rule_of in
    let valid = c.args.system.now.valid in
    all_pass (rules_of c.args.system.now.rules) (weight_of c.args.system.now.weights) (all_decrease c.args.system.now.weights c.args.system.now.rules valid) valid.small c.loop-at.at (omega (arith, size, c.count-at-end.ensures, c.loop-at-test.false)) c.loop-at.invariant
