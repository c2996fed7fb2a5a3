use Rattle.std.proofs.Common.{◌≤◌, length, ap, subst, arith}
use Rattle.std.proofs.lemmas.Result.{err_from_is_err_and}
use Rattle.etp_theory.specs.Positions.{sub_at}
use Rattle.etp_theory.specs.Trees.{ops}
use Rattle.etp_term.specs.Terms.{tree_of}
use Rattle.etp_term.specs.Positions.{position_of}
use Rattle.etp_rules.specs.Rules.{rule_of, rules_of}
use Rattle.etp_pairs.specs.Among.{InPart, IsRefusedAmong, AllPass}
use Rattle.etp_pairs.proofs.Found.{numbered_rule, not_numbered}
use Rattle.etp_pairs.proofs.Order.{outer_passes, outer_fails}
use Rattle.etp_pairs.proofs.convergence.check_outer.Goals as goal

pub check_part-requires-clause-part : goal.check_part-requires-clause-part
check_part-requires-clause-part c =
    let outer = numbered_rule c.args.system.now.rules c.args.outer c.in-Some.rule.now c.in-Some.ensures in
    record {
      place_of_rule = outer.0;
      rule = rule_of c.in-Some.rule.now;
      number = outer.1;
      listed = outer.2;
      part = ap (λ p. sub_at (position_of p) (tree_of c.in-Some.rule.now.left)) c.root-root.ensures;
    }

pub check_part-requires-clause-short : goal.check_part-requires-clause-short
check_part-requires-clause-short c =
    let outer = numbered_rule c.args.system.now.rules c.args.outer c.in-Some.rule.now c.in-Some.ensures in
    let small : ops (tree_of c.in-Some.rule.now.left) ≤ 12 = (c.args.system.now.valid.allowed outer.0 (rule_of c.in-Some.rule.now) outer.2).left_small in
    omega (arith, small, ap length c.root-root.ensures)

pub returns-in_err-check_part-in-Some-clause-err : goal.returns-in_err-check_part-in-Some-clause-err
returns-in_err-check_part-in-Some-clause-err c =
    let p = err_from_is_err_and c.from_residual.result c.from_residual.ensures.1 in
    let refusal = c.in_err-check_part-in-Some.field-0.0 in
    rw (p.1, p.2) (outer_fails (rules_of c.args.system.now.rules) c.args.outer refusal
    (subst (λ q. IsRefusedAmong (rules_of c.args.system.now.rules) (InPart c.args.outer (position_of q)) refusal) c.root-root.ensures c.in_err-check_part-in-Some.ensures.err))

pub returns-in-None-clause-ok : goal.returns-in-None-clause-ok
returns-in-None-clause-ok c = λ o a. absurd (not_numbered c.args.system.now.rules c.args.outer o.outer o.outer_rule c.in-None.ensures a o.outer_listed)

pub returns-in_ok-check_part-in-Some-clause-ok : goal.returns-in_ok-check_part-in-Some-clause-ok
returns-in_ok-check_part-in-Some-clause-ok c =
    outer_passes (rules_of c.args.system.now.rules) c.args.outer
    (subst (λ q. AllPass (rules_of c.args.system.now.rules) (InPart c.args.outer (position_of q))) c.root-root.ensures c.in_ok-check_part-in-Some.ensures.ok)
