use Rattle.std.proofs.Common.{◌≡◌, sym, ap, ◌∙◌}
use Rattle.etp_theory.specs.Trees.{var, op}
use Rattle.etp_term.specs.Terms.{tree_of}
use Rattle.etp_term.proofs.Opened.{tree_of-var, tree_of-op}
use Rattle.etp_match.specs.Bindings.{partial_of}
use Rattle.etp_match.proofs.Extending.{value_kept, value_other, value_new, extends_both, none_right}
use Rattle.etp_match.proofs.table.Bindings.+extend.Goals as goal

pub returns-in-Some-clause-yes : goal.returns-in-Some-clause-yes
returns-in-Some-clause-yes t c = λ h.
    let variable : tree_of c.args.pattern.now ≡ var c.in-Var.v = ap tree_of c.in-Var.is ∙ tree_of-var c.in-Var.v in
    value_kept (tree_of c.args.pattern.now) (tree_of c.args.term.now) (tree_of c.in-Some.value.now) c.in-Var.v (partial_of c.args.self.now) variable (sym c.in-Some.ensures) (c.same_term.ensures.0 h)

pub returns-in-Some-clause-no : goal.returns-in-Some-clause-no
returns-in-Some-clause-no t c = λ h.
    let variable : tree_of c.args.pattern.now ≡ var c.in-Var.v = ap tree_of c.in-Var.is ∙ tree_of-var c.in-Var.v in
    value_other (tree_of c.args.pattern.now) (tree_of c.args.term.now) (tree_of c.in-Some.value.now) c.in-Var.v (partial_of c.args.self.now) variable (sym c.in-Some.ensures) (λ e. let f = c.same_term.ensures.1 e in cc)

pub returns-in-None-clause-yes : goal.returns-in-None-clause-yes
returns-in-None-clause-yes t c = λ h.
    let variable : tree_of c.args.pattern.now ≡ var c.in-Var.v = ap tree_of c.in-Var.is ∙ tree_of-var c.in-Var.v in
    value_new (tree_of c.args.pattern.now) c.args.term.now c.in-Var.v c.args.self.now c.bind.new.self variable (sym c.in-None.ensures) c.bind.ensures

pub returns-then-extend-clause-yes : goal.returns-then-extend-clause-yes
returns-then-extend-clause-yes t c = λ h.
    let here : tree_of c.args.pattern.now ≡ op (tree_of c.get-in-Op-term.result.now) (tree_of c.get-then-extend.result.now) = ap tree_of c.in-Op.is ∙ tree_of-op _ _ ∙ (λ i. op (tree_of (sym c.get-in-Op-term.ensures i)) (tree_of (sym c.get-then-extend.ensures i))) in
    let there : tree_of c.args.term.now ≡ op (tree_of c.get-in-Op-term-2.result.now) (tree_of c.get-then-extend-2.result.now) = ap tree_of c.in-Op-term.is ∙ tree_of-op _ _ ∙ (λ i. op (tree_of (sym c.get-in-Op-term-2.ensures i)) (tree_of (sym c.get-then-extend-2.ensures i))) in
    extends_both (tree_of c.args.pattern.now) (tree_of c.args.term.now) _ _ _ _ (partial_of c.args.self.now) (partial_of c.extend.new.self) (partial_of c.extend-then-extend.new.self) here there (c.extend.ensures.yes c.if-extend.true) (c.extend-then-extend.ensures.yes h)

pub returns-then-extend-clause-no : goal.returns-then-extend-clause-no
returns-then-extend-clause-no t c = λ h.
    let here : tree_of c.args.pattern.now ≡ op (tree_of c.get-in-Op-term.result.now) (tree_of c.get-then-extend.result.now) = ap tree_of c.in-Op.is ∙ tree_of-op _ _ ∙ (λ i. op (tree_of (sym c.get-in-Op-term.ensures i)) (tree_of (sym c.get-then-extend.ensures i))) in
    let there : tree_of c.args.term.now ≡ op (tree_of c.get-in-Op-term-2.result.now) (tree_of c.get-then-extend-2.result.now) = ap tree_of c.in-Op-term.is ∙ tree_of-op _ _ ∙ (λ i. op (tree_of (sym c.get-in-Op-term-2.ensures i)) (tree_of (sym c.get-then-extend-2.ensures i))) in
    none_right (tree_of c.args.pattern.now) (tree_of c.args.term.now) _ _ _ _ (partial_of c.args.self.now) (partial_of c.extend.new.self) here there (c.extend.ensures.yes c.if-extend.true) (c.extend-then-extend.ensures.no h)
