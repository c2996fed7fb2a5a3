use Rattle.std.proofs.Common.{List, sym, subst}
use Rattle.etp_theory.specs.Positions.{Side}
use Rattle.etp_theory.specs.FailingOverlaps.{two_forms, term_limit, step_limit}
use Rattle.etp_term.specs.Terms.{tree_of}
use Rattle.etp_term.specs.Positions.{position_of}
use Rattle.etp_rules.specs.Rules.{rules_of}
use Rattle.etp_rules.specs.Weighing.{weight_of}
use Rattle.etp_rules.proofs.Usable.{all_decrease}
use Rattle.etp_pairs.specs.Pairs.{IsPair, IsPairAt}
use Rattle.etp_pairs.specs.Judging.{IsJudged}
use Rattle.etp_pairs.specs.Among.{IsFirstAmong, AtPlace}
use Rattle.etp_pairs.proofs.Order.{one_form, one_form_passes, fails_there}
use Rattle.etp_pairs.proofs.Forms.{form_small}
use Rattle.etp_pairs.proofs.convergence.check_place.Goals as goal

pub returns-in-OneForm-clause-ok : goal.returns-in-OneForm-clause-ok
returns-in-OneForm-clause-ok c =
    let rules = rules_of c.args.system.now.rules in
    let p = position_of c.args.position.now in
    let pair : IsPairAt rules c.args.outer p c.args.inner c.in-Some.pair = subst (IsPair rules c.args.outer p c.args.inner) c.in-Some.is c.in_ok-pair.ensures in
    let judged = one_form rules (tree_of c.in-Some.pair.left) (tree_of c.in-Some.pair.right) _ _ c.in-OneForm.is c.in_ok-judged.ensures in
    one_form_passes rules (weight_of c.args.system.now.weights) (all_decrease c.args.system.now.weights c.args.system.now.rules c.args.system.now.valid) c.args.outer p c.args.inner pair.overlapped pair.at _ _ pair.results judged

pub returns-in-TwoForms-clause-err : goal.returns-in-TwoForms-clause-err
returns-in-TwoForms-clause-err c =
    let rules = rules_of c.args.system.now.rules in
    let p = position_of c.args.position.now in
    let pair : IsPairAt rules c.args.outer p c.args.inner c.in-Some.pair = subst (IsPair rules c.args.outer p c.args.inner) c.in-Some.is c.in_ok-pair.ensures in
    let judged = subst (IsJudged rules (tree_of c.in-Some.pair.left) (tree_of c.in-Some.pair.right)) c.in-TwoForms.is c.in_ok-judged.ensures in
    let all = all_decrease c.args.system.now.weights c.args.system.now.rules c.args.system.now.valid in (
      subst (λ (q : List Side). IsFirstAmong rules (AtPlace c.args.outer p c.args.inner) c.args.outer q c.args.inner (two_forms (tree_of c.in-TwoForms.left_form) (tree_of c.in-TwoForms.right_form))) (sym pair.position_is)
          (fails_there rules c.args.outer p c.args.inner pair.overlapped pair.at _ _ pair.results _ judged),
      form_small (weight_of c.args.system.now.weights) rules all 64 _ _ judged.0 pair.results.left_small,
      form_small (weight_of c.args.system.now.weights) rules all 64 _ _ judged.1 pair.results.right_small,
    )

pub returns-in-TermLimit-clause-err : goal.returns-in-TermLimit-clause-err
returns-in-TermLimit-clause-err c =
    let rules = rules_of c.args.system.now.rules in
    let p = position_of c.args.position.now in
    let pair : IsPairAt rules c.args.outer p c.args.inner c.in-Some.pair = subst (IsPair rules c.args.outer p c.args.inner) c.in-Some.is c.in_ok-pair.ensures in
    let judged = subst (IsJudged rules (tree_of c.in-Some.pair.left) (tree_of c.in-Some.pair.right)) c.in-TermLimit.is c.in_ok-judged.ensures in
    subst (λ (q : List Side). IsFirstAmong rules (AtPlace c.args.outer p c.args.inner) c.args.outer q c.args.inner term_limit) (sym pair.position_is)
    (fails_there rules c.args.outer p c.args.inner pair.overlapped pair.at _ _ pair.results term_limit judged)

pub returns-clause-err : goal.returns-clause-err
returns-clause-err c =
    let rules = rules_of c.args.system.now.rules in
    let p = position_of c.args.position.now in
    let pair : IsPairAt rules c.args.outer p c.args.inner c.in-Some.pair = subst (IsPair rules c.args.outer p c.args.inner) c.in-Some.is c.in_ok-pair.ensures in
    let judged = subst (IsJudged rules (tree_of c.in-Some.pair.left) (tree_of c.in-Some.pair.right)) c.in-StepLimit.is c.in_ok-judged.ensures in
    subst (λ (q : List Side). IsFirstAmong rules (AtPlace c.args.outer p c.args.inner) c.args.outer q c.args.inner step_limit) (sym pair.position_is)
    (fails_there rules c.args.outer p c.args.inner pair.overlapped pair.at _ _ pair.results step_limit judged)
