use Rattle.std.proofs.Common.{◌≡◌, ◌+◌, ap, ◌∙◌}
use Rattle.etp_theory.specs.Trees.{op, ops}
use Rattle.etp_term.specs.Terms.{tree_of}
use Rattle.etp_term.proofs.Opened.{tree_of-op}
use Rattle.etp_term.proofs.Shapes.{shape_cmp-ops}
use Rattle.etp_term.proofs.term.Term.+shape_order.Goals as goal

pub returns-in-Op-Op-clause-order : goal.returns-in-Op-Op-clause-order
returns-in-Op-Op-clause-order t c =
    let mine : tree_of c.args.self.now ≡ op (tree_of c.in-Op-Op.a) (tree_of c.in-Op-Op.b) = ap tree_of c.in-Op-Op.is-0 ∙ tree_of-op c.in-Op-Op.a c.in-Op-Op.b in
    let theirs : tree_of c.args.other.now ≡ op (tree_of c.in-Op-Op.c) (tree_of c.in-Op-Op.d) = ap tree_of c.in-Op-Op.is-1 ∙ tree_of-op c.in-Op-Op.c c.in-Op-Op.d in
    let m : c.shape_order-left.result.mine + c.shape_order-right.result.mine + 1 ≡ ops (op (tree_of c.in-Op-Op.a) (tree_of c.in-Op-Op.b)) = cc in
    let n : c.shape_order-left.result.theirs + c.shape_order-right.result.theirs + 1 ≡ ops (op (tree_of c.in-Op-Op.c) (tree_of c.in-Op-Op.d)) = cc in
    cc (shape_cmp-ops (tree_of c.in-Op-Op.a) (tree_of c.in-Op-Op.b) (tree_of c.in-Op-Op.c) (tree_of c.in-Op-Op.d) _ _ m n)
