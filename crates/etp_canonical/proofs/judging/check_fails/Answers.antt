use Rattle.std.proofs.lemmas.List.Elements.{All-more}
use Rattle.std.proofs.lemmas.Option.{slice_get-get_or}
use Rattle.std.proofs.lemmas.Result.{err_from_is_err_and}
use Rattle.etp_laws.proofs.NumberLists.{all_taken}
use Rattle.etp_rules.specs.Rules.{rules_of}
use Rattle.etp_canonical.specs.Judgements.{LawFails}
use Rattle.etp_canonical.proofs.Offences.{fails_offence}
use Rattle.etp_canonical.proofs.judging.check_fails.Goals as goal

pub loop-number-preserved : goal.loop-number-preserved
loop-number-preserved c = All-more (LawFails c.args.laws.now.equations (rules_of c.args.system.now.rules)) c.args.fails.now c.loop-number.number-index 0 c.loop-number-test.true c.loop-number.invariant c.in_ok-check_that_fails.ensures.ok

pub returns-clause-ok : goal.returns-clause-ok
returns-clause-ok c = all_taken (LawFails c.args.laws.now.equations (rules_of c.args.system.now.rules)) c.args.fails.now c.loop-number.number-index c.loop-number-test.false c.loop-number.invariant

pub returns-in_err-check_that_fails-clause-err : goal.returns-in_err-check_that_fails-clause-err
returns-in_err-check_that_fails-clause-err c =
    let p = err_from_is_err_and c.from_residual.result c.from_residual.ensures.1 in
    rw (p.1, p.2) (fails_offence c.args.laws.now.equations (rules_of c.args.system.now.rules) c.args.fails.now c.loop-number.number-index _ c.in_err-check_that_fails.field-0.0 (slice_get-get_or c.args.fails.now c.loop-number.number-index 0 c.loop-number-test.true) c.loop-number.invariant c.in_err-check_that_fails.ensures.err)
