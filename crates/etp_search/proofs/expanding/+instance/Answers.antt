use Rattle.std.proofs.Common.{◌≡◌, inl, inr, sym, ap, ◌∙◌, subst, arith, refl}
use Rattle.etp_theory.specs.Trees.{var, op, ops, Occurs}
use Rattle.etp_term.specs.Terms.{tree_of}
use Rattle.etp_term.proofs.Opened.{tree_of-var, tree_of-op}
use Rattle.etp_search.proofs.expanding.+instance.Goals as goal

pub overflow_add-result : goal.overflow_add-result
overflow_add-result t c =
    let is : tree_of c.args.pattern.now ≡ var c.in-Var.v = ap tree_of c.in-Var.is ∙ tree_of-var _ in
    let h = c.requires c.in-Var.v (subst (Occurs c.in-Var.v) (sym is) refl) in
    omega (arith, h)

pub instance-requires : goal.instance-requires
instance-requires t c =
    let size : ops (tree_of c.args.pattern.now) ≡ t = c.decreases in
    let is : tree_of c.args.pattern.now ≡ op (tree_of c.get-in-Op.result.now) (tree_of c.in-Op.r) =
    ap tree_of c.in-Op.is ∙ tree_of-op _ _ ∙ ap (λ z. op (tree_of z) (tree_of c.in-Op.r)) (sym c.get-in-Op.ensures) in
    let less = ap ops is in
    (omega (arith, size, less), λ v h. c.requires v (subst (Occurs v) (sym is) (inl h)))

pub instance-requires-in-Op : goal.instance-requires-in-Op
instance-requires-in-Op t c =
    let size : ops (tree_of c.args.pattern.now) ≡ t = c.decreases in
    let is : tree_of c.args.pattern.now ≡ op (tree_of c.in-Op.l) (tree_of c.get-in-Op-2.result.now) =
    ap tree_of c.in-Op.is ∙ tree_of-op _ _ ∙ ap (λ z. op (tree_of c.in-Op.l) (tree_of z)) (sym c.get-in-Op-2.ensures) in
    let less = ap ops is in
    (omega (arith, size, less), λ v h. c.requires v (subst (Occurs v) (sym is) (inr h)))
