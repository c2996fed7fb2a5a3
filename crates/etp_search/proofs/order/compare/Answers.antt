use Rattle.std.proofs.Common.{◌≡◌, arith}
use Rattle.etp_theory.specs.Trees.{leaves}
use Rattle.etp_term.specs.Terms.{tree_of}
use Rattle.etp_theory.proofs.Orders.{leaves_ops}
use Rattle.etp_search.proofs.LeastTerms.{compared}
use Rattle.etp_search.proofs.order.compare.Goals as goal

pub shape_cmp-by_shape-requires-clause-mine : goal.shape_cmp-by_shape-requires-clause-mine
shape_cmp-by_shape-requires-clause-mine c = let e = leaves_ops (tree_of c.args.mine.now) in let h = c.requires.mine in omega (arith, e, h)

pub shape_cmp-by_shape-requires-clause-theirs : goal.shape_cmp-by_shape-requires-clause-theirs
shape_cmp-by_shape-requires-clause-theirs c = let e = leaves_ops (tree_of c.args.theirs.now) in let h = c.requires.theirs in omega (arith, e, h)

pub returns : goal.returns
returns c =
    let mine : c.leaves.result ≡ leaves (tree_of c.args.mine.now) = omega (arith, c.leaves.ensures, c.requires.mine) in
    let theirs : c.leaves-2.result ≡ leaves (tree_of c.args.theirs.now) = omega (arith, c.leaves-2.ensures, c.requires.theirs) in
    cc (compared (tree_of c.args.mine.now) (tree_of c.args.theirs.now) c.word_cmp-by_word.result c.word_cmp-by_word.ensures, mine, theirs)
