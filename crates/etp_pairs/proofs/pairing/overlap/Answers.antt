use Rattle.std.proofs.Common.{◌≡◌, [], refl, ap, ◌∙◌, subst}
use Rattle.etp_theory.specs.Trees.{var, op}
use Rattle.etp_term.specs.Terms.{tree_of}
use Rattle.etp_term.specs.Positions.{position_of}
use Rattle.etp_term.proofs.Opened.{tree_of-var, tree_of-op}
use Rattle.etp_rules.specs.Rules.{rule_of, rules_of}
use Rattle.etp_pairs.specs.Pairs.{AreUnified, AreResults}
use Rattle.etp_pairs.proofs.Found.{numbered_rule, not_empty, none_outside, none_at_variable, none_unifies, overlap_there, is_there, pair_there, few_in_system}
use Rattle.etp_pairs.proofs.pairing.overlap.Goals.{else-outer-inner-via-then-outer-inner+else-len-eq0, else-outer-inner-via-else-outer-inner}
use Rattle.etp_pairs.proofs.pairing.overlap.Goals as goal

pub returns-in_default-at : goal.returns-in_default-at
returns-in_default-at c =
    let outer = numbered_rule c.args.system.now.rules c.args.outer c.in-Some.outer_rule.now c.in-Some.ensures in
    none_outside (rules_of c.args.system.now.rules) c.args.outer c.args.inner (position_of c.args.position.now) outer.0 (rule_of c.in-Some.outer_rule.now) outer.1 outer.2 c.in_default-at.ensures

pub returns-in-Var : goal.returns-in-Var
returns-in-Var c =
    let outer = numbered_rule c.args.system.now.rules c.args.outer c.in-Some.outer_rule.now c.in-Some.ensures in
    let is : tree_of c.in-Some-at.part.now ≡ var c.in-Var.field-0 = ap tree_of c.in-Var.is ∙ tree_of-var _ in
    none_at_variable (rules_of c.args.system.now.rules) c.args.outer c.args.inner (position_of c.args.position.now) outer.0 (rule_of c.in-Some.outer_rule.now) outer.1 outer.2 c.in-Var.field-0 (tree_of c.in-Some-at.part.now) c.in-Some-at.ensures is

pub results_of-requires-clause-left : goal.results_of-requires-clause-left
results_of-requires-clause-left c =
    let inner = numbered_rule c.args.system.now.rules c.args.inner c.in-Some-rule.inner_rule.now c.in-Some-rule.ensures in
    (c.args.system.now.valid.small inner.0 (rule_of c.in-Some-rule.inner_rule.now) inner.2).0

pub results_of-requires-clause-right : goal.results_of-requires-clause-right
results_of-requires-clause-right c =
    let inner = numbered_rule c.args.system.now.rules c.args.inner c.in-Some-rule.inner_rule.now c.in-Some-rule.ensures in
    (c.args.system.now.valid.small inner.0 (rule_of c.in-Some-rule.inner_rule.now) inner.2).1

pub numbered-requires : goal.numbered-requires
numbered-requires c =
    let outer = numbered_rule c.args.system.now.rules c.args.outer c.in-Some.outer_rule.now c.in-Some.ensures in
    let inner = numbered_rule c.args.system.now.rules c.args.inner c.in-Some-rule.inner_rule.now c.in-Some-rule.ensures in
    let unified = subst (AreUnified (rule_of c.in-Some.outer_rule.now) (rule_of c.in-Some-rule.inner_rule.now) (position_of c.args.position.now) (tree_of c.in-Some-at.part.now)) c.in-Some-2.is c.in_ok-results_of.ensures in
    few_in_system c.args.system.now.weights c.args.system.now.rules outer.0 inner.0 (rule_of c.in-Some.outer_rule.now) (rule_of c.in-Some-rule.inner_rule.now) (position_of c.args.position.now) (tree_of c.in-Some-at.part.now) _ _ c.args.system.now.valid outer.2 inner.2 c.in-Some-at.ensures unified

pub returns-in-None : goal.returns-in-None
returns-in-None c =
    let outer = numbered_rule c.args.system.now.rules c.args.outer c.in-Some.outer_rule.now c.in-Some.ensures in
    let inner = numbered_rule c.args.system.now.rules c.args.inner c.in-Some-rule.inner_rule.now c.in-Some-rule.ensures in
    let unified = subst (AreUnified (rule_of c.in-Some.outer_rule.now) (rule_of c.in-Some-rule.inner_rule.now) (position_of c.args.position.now) (tree_of c.in-Some-at.part.now)) c.in-None.is c.in_ok-results_of.ensures in
    none_unifies (rules_of c.args.system.now.rules) c.args.outer c.args.inner (position_of c.args.position.now) outer.0 (rule_of c.in-Some.outer_rule.now) outer.1 outer.2 inner.0 (rule_of c.in-Some-rule.inner_rule.now) inner.1 inner.2 (tree_of c.in-Some-at.part.now) c.in-Some-at.ensures unified

pub returns-in_ok-position-in-Some-2 : goal.returns-in_ok-position-in-Some-2
returns-in_ok-position-in-Some-2 c =
    let rules = rules_of c.args.system.now.rules in
    let p = position_of c.args.position.now in
    let e = rule_of c.in-Some.outer_rule.now in
    let f = rule_of c.in-Some-rule.inner_rule.now in
    let t = tree_of c.in-Some-at.part.now in
    let outer = numbered_rule c.args.system.now.rules c.args.outer c.in-Some.outer_rule.now c.in-Some.ensures in
    let inner = numbered_rule c.args.system.now.rules c.args.inner c.in-Some-rule.inner_rule.now c.in-Some-rule.ensures in
    let unified : AreResults e f p t (tree_of c.in-Some-2.found.left) (tree_of c.in-Some-2.found.right) = subst (AreUnified e f p t) c.in-Some-2.is c.in_ok-results_of.ensures in
    let is : t ≡ op (tree_of c.in_default-part.field-0) (tree_of c.in_default-part.field-1) = ap tree_of c.in_default-part.is ∙ tree_of-op _ _ in
    let apart : p ≡ [] → c.args.outer ≡ c.args.inner → ⊥ = λ q k. elim c.else-outer-inner.branch [
      | else-outer-inner-via-then-outer-inner+else-len-eq0 w ↦ not_empty c.args.position.now (λ z. w.if-len-eq0.false (w.len.ensures ∙ z)) q
      | else-outer-inner-via-else-outer-inner w ↦ w.if-outer-inner.false k
    ] in
    record {
      overlapped = overlap_there rules c.args.outer c.args.inner p outer.0 e outer.1 outer.2 inner.0 f inner.1 inner.2 t c.in-Some-at.ensures _ _ is apart;
      at = is_there rules c.args.outer c.args.inner p outer.0 e outer.1 outer.2 inner.0 f inner.1 inner.2 t c.in-Some-at.ensures _ _ is apart;
      outer_is = refl;
      position_is = ap position_of c.in_ok-position-in-Some-2.ensures;
      inner_is = refl;
      results = pair_there rules c.args.outer c.args.inner p outer.0 e outer.1 outer.2 inner.0 f inner.1 inner.2 t c.in-Some-at.ensures _ _ is apart _ _ _ _ unified c.in_ok-named-in-Some-2.ensures;
    }
