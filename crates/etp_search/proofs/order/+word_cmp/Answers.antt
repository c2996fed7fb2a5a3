use Rattle.std.proofs.Common.{◌≡◌, ap, sym, ◌∙◌}
use Rattle.etp_theory.specs.Trees.{op}
use Rattle.etp_term.specs.Terms.{tree_of}
use Rattle.etp_term.proofs.Opened.{tree_of-op}
use Rattle.etp_term.proofs.WordOrder.{slice_cmp-op}
use Rattle.etp_search.proofs.order.+word_cmp.Goals as goal

pub returns-in-Op-Op : goal.returns-in-Op-Op
returns-in-Op-Op t c =
    let mine : tree_of c.args.mine.now ≡ op (tree_of c.get.result.now) (tree_of c.get-in-Op-Op-2.result.now) = ap tree_of c.in-Op-Op.is-0 ∙ tree_of-op c.in-Op-Op.a c.in-Op-Op.b ∙ (λ i. op (tree_of (sym c.get.ensures i)) (tree_of (sym c.get-in-Op-Op-2.ensures i))) in
    let theirs : tree_of c.args.theirs.now ≡ op (tree_of c.get-in-Op-Op.result.now) (tree_of c.get-in-Op-Op-3.result.now) = ap tree_of c.in-Op-Op.is-1 ∙ tree_of-op c.in-Op-Op.c c.in-Op-Op.d ∙ (λ i. op (tree_of (sym c.get-in-Op-Op.ensures i)) (tree_of (sym c.get-in-Op-Op-3.ensures i))) in
    slice_cmp-op (tree_of c.args.mine.now) (tree_of c.args.theirs.now) (tree_of c.get.result.now) (tree_of c.get-in-Op-Op-2.result.now) (tree_of c.get-in-Op-Op.result.now) (tree_of c.get-in-Op-Op-3.result.now) c.word_cmp.result c.word_cmp-in-Op-Op.result c.then.result mine theirs c.word_cmp.ensures c.word_cmp-in-Op-Op.ensures c.then.ensures
