use Rattle.std.proofs.Common.{◌≡◌, List, ap, subst}
use Rattle.std.proofs.lemmas.Result.{err_from_is_err_and}
use Rattle.etp_theory.specs.Trees.{Equation}
use Rattle.etp_rules.specs.Rules.{rules_of}
use Rattle.etp_pairs.specs.Refusals.{IsRefused}
use Rattle.etp_canonical.specs.Judgements.{IsJudged, IsFirstOffence, OrNoMemory}
use Rattle.etp_items.specs.Bodies.{weight_of, claims_of}
use Rattle.etp_check.proofs.Systems as Systems
use Rattle.etp_check.proofs.checking.check_rules.Goals as goal

pub returns-in_err-system-clause-err : goal.returns-in_err-system-clause-err
returns-in_err-system-clause-err c =
    let p = err_from_is_err_and c.from_residual.result c.from_residual.ensures.1 in
    rw (p.1, p.2) (Systems.of_system c.args.laws.now (weight_of c.args.body.now) (rules_of c.args.body.now.rules) (claims_of c.args.body.now.claims) c.args.cited.now c.in_err-system.field-0.0 c.in_err-system.ensures.err)

pub returns-in-Err-clause-err : goal.returns-in-Err-clause-err
returns-in-Err-clause-err c =
    let s = c.in_ok-system.system in
    let w = weight_of c.args.body.now in
    let rs = rules_of c.args.body.now.rules in
    let rules_is : rules_of s.rules ≡ rs = ap rules_of c.in_ok-system.ensures.rules in
    let refused = subst (λ (x : List Equation). IsRefused x c.in-Err.refusal) rules_is c.in-Err.ensures.err in
    Systems.of_pairs c.args.laws.now w rs (claims_of c.args.body.now.claims) c.args.cited.now c.of_pairs.result c.in-Err.refusal c.of_pairs.ensures
    (Systems.in_range s w rs c.in_ok-system.ensures.weight rules_is) (Systems.allowed s w rs c.in_ok-system.ensures.weight rules_is) refused

pub returns-in-Ok-judge-clause-right : goal.returns-in-Ok-judge-clause-right
returns-in-Ok-judge-clause-right c =
    let s = c.in_ok-system.system in
    let w = weight_of c.args.body.now in
    let rs = rules_of c.args.body.now.rules in
    let claims = c.args.body.now.claims in
    let rules_is : rules_of s.rules ≡ rs = ap rules_of c.in_ok-system.ensures.rules in
    let judged : IsJudged c.args.laws.now.equations (rules_of s.rules) claims.holds claims.fails = rw (c.as_slice.ensures, c.as_slice-2.ensures) at c.in-Ok-judge.ensures.ok in (
      Systems.rule_magma s w rs c.in_ok-system.ensures.weight rules_is c.in-Ok.ensures.ok,
      subst (λ (x : List Equation). IsJudged c.args.laws.now.equations x claims.holds claims.fails) rules_is judged,
    )

pub returns-clause-err : goal.returns-clause-err
returns-clause-err c =
    let s = c.in_ok-system.system in
    let w = weight_of c.args.body.now in
    let rs = rules_of c.args.body.now.rules in
    let claims = c.args.body.now.claims in
    let rules_is : rules_of s.rules ≡ rs = ap rules_of c.in_ok-system.ensures.rules in
    let offence : OrNoMemory (IsFirstOffence c.args.laws.now.equations (rules_of s.rules) claims.holds claims.fails) c.in-Err-judge.refusal = rw (c.as_slice.ensures, c.as_slice-2.ensures) at c.in-Err-judge.ensures.err in
    Systems.of_claim c.args.laws.now w rs (claims_of claims) c.args.cited.now c.of_claim.result c.in-Err-judge.refusal c.of_claim.ensures
    (Systems.rule_magma s w rs c.in_ok-system.ensures.weight rules_is c.in-Ok.ensures.ok)
    (subst (λ (x : List Equation). OrNoMemory (IsFirstOffence c.args.laws.now.equations x claims.holds claims.fails) c.in-Err-judge.refusal) rules_is offence)
