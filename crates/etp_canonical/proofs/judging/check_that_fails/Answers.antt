use Rattle.std.proofs.Common.{inr, refl, subst}
use Rattle.etp_rules.specs.Rules.{rules_of}
use Rattle.etp_canonical.specs.Looking.{IsLawJudged}
use Rattle.etp_canonical.proofs.Found.{fails_by}
use Rattle.etp_canonical.proofs.judging.check_that_fails.Goals as goal

pub returns-in-OneForm-clause-err : goal.returns-in-OneForm-clause-err
returns-in-OneForm-clause-err c = inr (refl, subst (IsLawJudged c.args.laws.now.equations (rules_of c.args.system.now.rules) c.args.number) c.in-OneForm.is c.in_ok-form.ensures)

pub returns-in-TwoForms-clause-ok : goal.returns-in-TwoForms-clause-ok
returns-in-TwoForms-clause-ok c = fails_by c.args.laws.now.equations (rules_of c.args.system.now.rules) c.args.number _ _ _ c.in-TwoForms.is c.in_ok-form.ensures

pub returns-in-TermLimit-clause-err : goal.returns-in-TermLimit-clause-err
returns-in-TermLimit-clause-err c = inr (refl, subst (IsLawJudged c.args.laws.now.equations (rules_of c.args.system.now.rules) c.args.number) c.in-TermLimit.is c.in_ok-form.ensures)

pub returns-clause-err : goal.returns-clause-err
returns-clause-err c = inr (refl, subst (IsLawJudged c.args.laws.now.equations (rules_of c.args.system.now.rules) c.args.number) c.in-StepLimit.is c.in_ok-form.ensures)
