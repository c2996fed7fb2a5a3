use Rattle.std.proofs.Common.{◌≡◌, ◌≤◌, ◌+◌, ◌∙◌, ap, arith}
use Rattle.etp_theory.specs.Trees.{ops, op}
use Rattle.etp_term.specs.Terms.{tree_of}
use Rattle.etp_term.proofs.Opened.{tree_of-op}
use Rattle.etp_laws.proofs.CountLemmas.{joined_small}
use Rattle.etp_laws.proofs.parts.+shape_of.Goals as goal

pub returns-in-AsWritten-clause-small : goal.returns-in-AsWritten-clause-small
returns-in-AsWritten-clause-small t c =
    let whole : ops (tree_of c.args.term.now) ≡ ops (op (tree_of c.in-Op.l) (tree_of c.in-Op.r)) = ap ops (ap tree_of c.in-Op.is ∙ tree_of-op c.in-Op.l c.in-Op.r) in
    let left : c.shape_of-left.result.ops ≡ ops (tree_of c.in-Op.l) = c.shape_of-left.ensures.size ∙ ap (λ u. ops (tree_of u)) c.get.ensures in
    let right : c.shape_of-right.result.ops ≡ ops (tree_of c.in-Op.r) = c.shape_of-right.ensures.size ∙ ap (λ u. ops (tree_of u)) c.get-in-Op.ensures in
    let small = c.requires in
    let few : c.shape_of-left.result.ops + c.shape_of-right.result.ops ≤ 4 = omega arith in
    joined_small _ _ c.shape_of-left.result.ops c.shape_of-right.result.ops c.shape_of-left.result.place c.shape_of-right.result.place c.joined.result.place c.shape_of-left.ensures.ops c.shape_of-right.ensures.ops c.shape_of-left.ensures.place c.shape_of-right.ensures.place few c.joined.ensures.place

pub returns-in-Mirrored-clause-small : goal.returns-in-Mirrored-clause-small
returns-in-Mirrored-clause-small t c =
    let whole : ops (tree_of c.args.term.now) ≡ ops (op (tree_of c.in-Op.l) (tree_of c.in-Op.r)) = ap ops (ap tree_of c.in-Op.is ∙ tree_of-op c.in-Op.l c.in-Op.r) in
    let left : c.shape_of-left.result.ops ≡ ops (tree_of c.in-Op.l) = c.shape_of-left.ensures.size ∙ ap (λ u. ops (tree_of u)) c.get.ensures in
    let right : c.shape_of-right.result.ops ≡ ops (tree_of c.in-Op.r) = c.shape_of-right.ensures.size ∙ ap (λ u. ops (tree_of u)) c.get-in-Op.ensures in
    let small = c.requires in
    let few : c.shape_of-right.result.ops + c.shape_of-left.result.ops ≤ 4 = omega arith in
    joined_small _ _ c.shape_of-right.result.ops c.shape_of-left.result.ops c.shape_of-right.result.place c.shape_of-left.result.place c.joined-in-Mirrored.result.place c.shape_of-right.ensures.ops c.shape_of-left.ensures.ops c.shape_of-right.ensures.place c.shape_of-left.ensures.place few c.joined-in-Mirrored.ensures.place
