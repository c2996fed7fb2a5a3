use Rattle.std.proofs.lemmas.Result.{err_from_is_err_and}
use Rattle.etp_rules.specs.Rules.{rules_of}
use Rattle.etp_rules.specs.Weighing.{weight_of}
use Rattle.etp_canonical.proofs.Found.{right_fact}
use Rattle.etp_canonical.proofs.Offences.{from_holds, from_fails}
use Rattle.etp_canonical.proofs.judging.judge.Goals as goal

pub returns-clause-means : goal.returns-clause-means
returns-clause-means c =
    right_fact c.args.laws.now.equations (rules_of c.args.system.now.rules) (weight_of c.args.system.now.weights) c.args.holds.now c.args.fails.now
    (record { holding = c.in_ok-check_holds.ensures.ok; failing = c.in_ok-check_fails.ensures.ok })

pub returns-in_err-check_holds-clause-err : goal.returns-in_err-check_holds-clause-err
returns-in_err-check_holds-clause-err c =
    let p = err_from_is_err_and c.from_residual.result c.from_residual.ensures.1 in
    rw (p.1, p.2) (from_holds c.args.laws.now.equations (rules_of c.args.system.now.rules) c.args.holds.now c.args.fails.now c.in_err-check_holds.field-0.0 c.in_err-check_holds.ensures.err)

pub returns-in_err-check_fails-clause-err : goal.returns-in_err-check_fails-clause-err
returns-in_err-check_fails-clause-err c =
    let p = err_from_is_err_and c.from_residual-in_err-check_fails.result c.from_residual-in_err-check_fails.ensures.1 in
    rw (p.1, p.2) (from_fails c.args.laws.now.equations (rules_of c.args.system.now.rules) c.args.holds.now c.args.fails.now c.in_err-check_fails.field-0.0 c.in_ok-check_holds.ensures.ok c.in_err-check_fails.ensures.err)
