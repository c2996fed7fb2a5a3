use Rattle.std.proofs.Common.{◌≡◌, sym, ap, ap₂, ◌∙◌, subst, refl}
use Rattle.etp_theory.specs.Trees.{Tree, op}
use Rattle.etp_term.specs.Terms.{tree_of}
use Rattle.etp_term.proofs.Opened.{tree_of-op}
use Rattle.etp_table.specs.Programs.{HasValue}
use Rattle.etp_table.proofs.Compiling.{value_of_op}
use Rattle.etp_table.proofs.program.Program.+compile.Goals as goal

pub returns-in-Op-clause-value : goal.returns-in-Op-clause-value
returns-in-Op-clause-value t c =
    let one = c.compile-left.new.self in
    let two = c.compile-right.new.self in
    let three = c.emit.new.self in
    let tree : op (tree_of c.get.result.now) (tree_of c.get-in-Op.result.now) ≡ tree_of c.args.term.now =
    ap₂ op (ap tree_of c.get.ensures) (ap tree_of c.get-in-Op.ensures) ∙ sym (tree_of-op c.in-Op.l c.in-Op.r) ∙ ap tree_of (sym c.in-Op.is) in
    let left : HasValue three.last one.kept one.looped c.compile-left.result (tree_of c.get.result.now) =
    subst (λ n. HasValue n one.kept one.looped c.compile-left.result (tree_of c.get.result.now)) (sym (c.emit.ensures.last ∙ c.compile-right.ensures.last)) c.compile-left.ensures.value in
    let right : HasValue three.last two.kept two.looped c.compile-right.result (tree_of c.get-in-Op.result.now) =
    subst (λ n. HasValue n two.kept two.looped c.compile-right.result (tree_of c.get-in-Op.result.now)) (sym c.emit.ensures.last) c.compile-right.ensures.value in
    subst (λ (s : Tree). HasValue three.last three.kept three.looped c.emit.result s) tree
    (value_of_op three.last c.compile-left.result c.compile-right.result c.emit.result one.kept one.looped two.kept two.looped three.kept three.looped (record { left = c.compile-left.result; right = c.compile-right.result }) (tree_of c.get.result.now) (tree_of c.get-in-Op.result.now) left c.compile-right.ensures.kept c.compile-right.ensures.looped right refl refl c.emit.ensures.place)
