use Rattle.std.proofs.Common.{◌≡◌, ◌<◌, rules, sym, ap, ◌∙◌, arith, refl}
use Rattle.etp_theory.specs.Trees.{var, op}
use Rattle.etp_term.specs.Terms.{tree_of}
use Rattle.etp_term.proofs.Opened.{tree_of-var, tree_of-op}
use Rattle.etp_unify.specs.Values.{counted}
use Rattle.etp_unify.proofs.Triangular.{weight}
use Rattle.etp_unify.proofs.Resolved.{lighter_left, lighter_right, lighter_value, counted_free, counted_value, counted_more}
use Rattle.etp_unify.proofs.values.+leaves_below.Goals as goal

pub leaves_below-left-requires : goal.leaves_below-left-requires
leaves_below-left-requires t c =
    let size : weight c.args.bindings.now (tree_of c.args.term.now) ≡ t = c.decreases in
    let is : tree_of c.args.term.now ≡ op (tree_of c.get.result.now) (tree_of c.in-Op.r) = ap tree_of c.in-Op.is ∙ tree_of-op _ _ ∙ ap (λ z. op (tree_of z) (tree_of c.in-Op.r)) (sym c.get.ensures) in
    (omega (arith, size, lighter_left c.args.bindings.now _ _ _ is), (c.requires.triangular, (c.requires.size, c.requires.counted)))

pub leaves_below-right-requires : goal.leaves_below-right-requires
leaves_below-right-requires t c =
    let size : weight c.args.bindings.now (tree_of c.args.term.now) ≡ t = c.decreases in
    let is : tree_of c.args.term.now ≡ op (tree_of c.in-Op.l) (tree_of c.get-in-Op.result.now) = ap tree_of c.in-Op.is ∙ tree_of-op _ _ ∙ ap (λ z. op (tree_of c.in-Op.l) (tree_of z)) (sym c.get-in-Op.ensures) in
    (omega (arith, size, lighter_right c.args.bindings.now _ _ _ is), (c.requires.triangular, (omega (arith, c.requires.size, c.leaves_below-left.auto.known), c.leaves_below-left.ensures.counted)))

pub leaves_below-count-requires : goal.leaves_below-count-requires
leaves_below-count-requires t c =
    let size : weight c.args.bindings.now (tree_of c.args.term.now) ≡ t = c.decreases in
    let is : tree_of c.args.term.now ≡ var c.in-Var.v = ap tree_of c.in-Var.is ∙ tree_of-var _ in
    (omega (arith, size, lighter_value c.args.bindings.now c.requires.triangular _ _ c.in-Var.v is (sym c.in-Some.ensures)), (c.requires.triangular, (c.requires.size, c.requires.counted)))

pub returns-in-None-clause-count : goal.returns-in-None-clause-count
returns-in-None-clause-count t c =
    let is : tree_of c.args.term.now ≡ var c.in-Var.v = ap tree_of c.in-Var.is ∙ tree_of-var _ in
    counted_free c.args.bindings.now c.requires.triangular _ c.in-Var.v is (sym c.in-None.ensures)

pub returns-else-before-ne0-clause-count : goal.returns-else-before-ne0-clause-count
returns-else-before-ne0-clause-count t c =
    let is : tree_of c.args.term.now ≡ var c.in-Var.v = ap tree_of c.in-Var.is ∙ tree_of-var _ in
    c.leaves_below-count.ensures.count ∙ counted_value c.args.bindings.now c.requires.triangular _ _ c.in-Var.v is (sym c.in-Some.ensures)

pub returns-else-before-ne0-clause-counted : goal.returns-else-before-ne0-clause-counted
returns-else-before-ne0-clause-counted t c =
    let small : c.in-Var.v < 256 = search rules in
    let same : c.leaves_below-count.result ≡ counted c.args.bindings.now (var c.in-Var.v) =
    c.leaves_below-count.ensures.count ∙ counted_value c.args.bindings.now c.requires.triangular (var c.in-Var.v) _ c.in-Var.v refl (sym c.in-Some.ensures) in
    counted_more c.args.bindings.now c.leaves_below-count.new.known c.in-Var.v c.leaves_below-count.result c.leaves_below-count.ensures.counted same (omega (arith, c.requires.size, c.leaves_below-count.auto.known, small))
