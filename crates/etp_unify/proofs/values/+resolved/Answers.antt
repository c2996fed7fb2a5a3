use Rattle.std.proofs.Common.{◌≡◌, sym, ap, ◌∙◌, arith}
use Rattle.etp_theory.specs.Trees.{var, op}
use Rattle.etp_term.specs.Terms.{tree_of}
use Rattle.etp_term.proofs.Opened.{tree_of-var, tree_of-op}
use Rattle.etp_unify.proofs.Triangular.{weight}
use Rattle.etp_unify.proofs.Resolved.{lighter_left, lighter_right, lighter_value, of_value, of_free}
use Rattle.etp_unify.proofs.values.+resolved.Goals as goal

pub resolved-requires : goal.resolved-requires
resolved-requires t c =
    let size : weight c.args.bindings.now (tree_of c.args.term.now) ≡ t = c.decreases in
    let is : tree_of c.args.term.now ≡ op (tree_of c.get.result.now) (tree_of c.in-Op.r) = ap tree_of c.in-Op.is ∙ tree_of-op _ _ ∙ ap (λ z. op (tree_of z) (tree_of c.in-Op.r)) (sym c.get.ensures) in
    (omega (arith, size, lighter_left c.args.bindings.now _ _ _ is), c.requires)

pub resolved-requires-in-Op : goal.resolved-requires-in-Op
resolved-requires-in-Op t c =
    let size : weight c.args.bindings.now (tree_of c.args.term.now) ≡ t = c.decreases in
    let is : tree_of c.args.term.now ≡ op (tree_of c.in-Op.l) (tree_of c.get-in-Op.result.now) = ap tree_of c.in-Op.is ∙ tree_of-op _ _ ∙ ap (λ z. op (tree_of c.in-Op.l) (tree_of z)) (sym c.get-in-Op.ensures) in
    (omega (arith, size, lighter_right c.args.bindings.now _ _ _ is), c.requires)

pub resolved-requires-in-Some : goal.resolved-requires-in-Some
resolved-requires-in-Some t c =
    let size : weight c.args.bindings.now (tree_of c.args.term.now) ≡ t = c.decreases in
    let is : tree_of c.args.term.now ≡ var c.in-Var.v = ap tree_of c.in-Var.is ∙ tree_of-var _ in
    (omega (arith, size, lighter_value c.args.bindings.now c.requires _ _ c.in-Var.v is (sym c.in-Some.ensures)), c.requires)

pub returns-in-Some : goal.returns-in-Some
returns-in-Some t c =
    let is : tree_of c.args.term.now ≡ var c.in-Var.v = ap tree_of c.in-Var.is ∙ tree_of-var _ in
    rw (of_value c.args.bindings.now c.requires _ _ c.in-Var.v is (sym c.in-Some.ensures)) c.resolved-in-Some.ensures

pub returns-in-None : goal.returns-in-None
returns-in-None t c =
    let is : tree_of c.args.term.now ≡ var c.in-Var.v = ap tree_of c.in-Var.is ∙ tree_of-var _ in
    tree_of-var _ ∙ sym (of_free c.args.bindings.now c.requires _ c.in-Var.v is (sym c.in-None.ensures))
