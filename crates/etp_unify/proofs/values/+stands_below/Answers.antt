use Rattle.std.proofs.Common.{◌≡◌, None, sym, ap, ◌∙◌, subst, refl, arith}
use Rattle.etp_theory.specs.Trees.{var, op}
use Rattle.etp_theory.specs.Substitutions.{apply}
use Rattle.etp_match.specs.Bindings.{partial_of}
use Rattle.etp_term.specs.Terms.{tree_of}
use Rattle.etp_term.proofs.Opened.{tree_of-var, tree_of-op}
use Rattle.etp_unify.specs.Triangular.{solution}
use Rattle.etp_unify.proofs.Triangular.{weight}
use Rattle.etp_unify.proofs.Resolved.{lighter_left, lighter_right, lighter_value, of_value, of_free, along, against, marked_more}
use Rattle.etp_unify.proofs.values.+stands_below.Goals as goal

pub stands_below-requires : goal.stands_below-requires
stands_below-requires t c =
    let size : weight c.args.bindings.now (tree_of c.args.term.now) ≡ t = c.decreases in
    let is : tree_of c.args.term.now ≡ op (tree_of c.get.result.now) (tree_of c.in-Op.r) = ap tree_of c.in-Op.is ∙ tree_of-op _ _ ∙ ap (λ z. op (tree_of z) (tree_of c.in-Op.r)) (sym c.get.ensures) in
    (omega (arith, size, lighter_left c.args.bindings.now _ _ _ is), (c.requires.triangular, (c.requires.free, (c.requires.size, c.requires.marked))))

pub stands_below-requires-else-stands_below : goal.stands_below-requires-else-stands_below
stands_below-requires-else-stands_below t c =
    let size : weight c.args.bindings.now (tree_of c.args.term.now) ≡ t = c.decreases in
    let is : tree_of c.args.term.now ≡ op (tree_of c.in-Op.l) (tree_of c.get-else-stands_below.result.now) = ap tree_of c.in-Op.is ∙ tree_of-op _ _ ∙ ap (λ z. op (tree_of c.in-Op.l) (tree_of z)) (sym c.get-else-stands_below.ensures) in
    (omega (arith, size, lighter_right c.args.bindings.now _ _ _ is), (c.requires.triangular, (c.requires.free, (omega (arith, c.requires.size, c.stands_below.auto.without), c.stands_below.ensures.marked))))

pub returns-then-v-variable-clause-yes : goal.returns-then-v-variable-clause-yes
returns-then-v-variable-clause-yes t c = λ h.
    let is : tree_of c.args.term.now ≡ var c.in-Var.v = ap tree_of c.in-Var.is ∙ tree_of-var _ in
    along c.args.variable _ _ (of_free c.args.bindings.now c.requires.triangular _ c.in-Var.v is (subst (λ v. (partial_of c.args.bindings.now).value v ≡ None) (sym c.if-v-variable.true) c.requires.free)) c.if-v-variable.true

pub returns-then-without-v-clause-no : goal.returns-then-without-v-clause-no
returns-then-without-v-clause-no t c = λ h.
    let is : tree_of c.args.term.now ≡ var c.in-Var.v = ap tree_of c.in-Var.is ∙ tree_of-var _ in
    against c.args.variable _ _ (ap (apply (solution c.args.bindings.now)) is) (c.requires.marked c.in-Var.v c.if-without-v.true)

pub stands_below-requires-in-Some : goal.stands_below-requires-in-Some
stands_below-requires-in-Some t c =
    let size : weight c.args.bindings.now (tree_of c.args.term.now) ≡ t = c.decreases in
    let is : tree_of c.args.term.now ≡ var c.in-Var.v = ap tree_of c.in-Var.is ∙ tree_of-var _ in
    (omega (arith, size, lighter_value c.args.bindings.now c.requires.triangular _ _ c.in-Var.v is (sym c.in-Some.ensures)), (c.requires.triangular, (c.requires.free, (c.requires.size, c.requires.marked))))

pub returns-then-stands_below-2-clause-yes : goal.returns-then-stands_below-2-clause-yes
returns-then-stands_below-2-clause-yes t c = λ h.
    let is : tree_of c.args.term.now ≡ var c.in-Var.v = ap tree_of c.in-Var.is ∙ tree_of-var _ in
    along c.args.variable _ _ (of_value c.args.bindings.now c.requires.triangular _ _ c.in-Var.v is (sym c.in-Some.ensures)) (c.stands_below-in-Some.ensures.yes c.if-stands_below-2.true)

pub returns-in-None-clause-no : goal.returns-in-None-clause-no
returns-in-None-clause-no t c = λ h.
    let is : tree_of c.args.term.now ≡ var c.in-Var.v = ap tree_of c.in-Var.is ∙ tree_of-var _ in
    against c.args.variable _ _ (of_free c.args.bindings.now c.requires.triangular _ c.in-Var.v is (sym c.in-None.ensures)) c.if-v-variable.false

pub returns-else-stands_below-2-clause-no : goal.returns-else-stands_below-2-clause-no
returns-else-stands_below-2-clause-no t c = λ h.
    let is : tree_of c.args.term.now ≡ var c.in-Var.v = ap tree_of c.in-Var.is ∙ tree_of-var _ in
    against c.args.variable _ _ (of_value c.args.bindings.now c.requires.triangular _ _ c.in-Var.v is (sym c.in-Some.ensures)) (c.stands_below-in-Some.ensures.no c.if-stands_below-2.false)

pub returns-else-stands_below-2-clause-marked : goal.returns-else-stands_below-2-clause-marked
returns-else-stands_below-2-clause-marked t c =
    let value : solution c.args.bindings.now c.in-Var.v ≡ apply (solution c.args.bindings.now) (tree_of c.in-Some.value.now) =
    of_value c.args.bindings.now c.requires.triangular (var c.in-Var.v) _ c.in-Var.v refl (sym c.in-Some.ensures) in
    marked_more c.args.bindings.now c.args.variable c.stands_below-in-Some.new.without c.in-Var.v c.stands_below-in-Some.ensures.marked
    (against c.args.variable _ _ value (c.stands_below-in-Some.ensures.no c.if-stands_below-2.false))
