use Rattle.std.proofs.Common.{◌≡◌, length, arith}
use Rattle.std.proofs.lemmas.List.{length-map}
use Rattle.std.proofs.lemmas.Result.{err_from_is_err_and}
use Rattle.etp_term.specs.Positions.{position_of}
use Rattle.etp_rules.specs.Rules.{rule_of, rules_of}
use Rattle.etp_pairs.proofs.Order.{one_inner_more, all_inners, inner_fails}
use Rattle.etp_pairs.proofs.convergence.check_position.Goals as goal

pub returns-in_err-check_place-clause-err : goal.returns-in_err-check_place-clause-err
returns-in_err-check_place-clause-err c =
    let p = err_from_is_err_and c.from_residual.result c.from_residual.ensures.1 in
    rw (p.1, p.2) (inner_fails (rules_of c.args.system.now.rules) c.args.outer (position_of c.args.position.now) c.loop-at.at c.loop-at.invariant c.in_err-check_place.field-0.0 c.in_err-check_place.ensures.err)

pub loop-at-preserved : goal.loop-at-preserved
loop-at-preserved c = one_inner_more (rules_of c.args.system.now.rules) c.args.outer (position_of c.args.position.now) c.loop-at.at c.loop-at.invariant c.in_ok-check_place.ensures.ok

pub returns-clause-ok : goal.returns-clause-ok
returns-clause-ok c =
    let size : length (rules_of c.args.system.now.rules) ≡ length c.args.system.now.rules = length-map c.args.system.now.rules rule_of in
    all_inners (rules_of c.args.system.now.rules) c.args.outer (position_of c.args.position.now) c.loop-at.at (omega (arith, size, c.count-at-end.ensures, c.loop-at-test.false)) c.loop-at.invariant
