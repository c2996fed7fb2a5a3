use Rattle.std.proofs.Common.{sym, subst, arith}
use Rattle.etp_term.specs.Terms.{tree_of}
use Rattle.etp_table.specs.Programs.{HasValue}
use Rattle.etp_table.proofs.Compiling.{value_kept}
use Rattle.etp_table.proofs.compiled.CompiledLaw.of.Goals as goal

pub returns-clause-compiled : goal.returns-clause-compiled
returns-clause-compiled c =
    let one = c.compile-left.new.self in
    let two = c.compile-right.new.self in
    let last = c.compile-left.ensures.last in
    let last_two = c.compile-right.ensures.last in
    let left : HasValue two.last one.kept one.looped c.compile-left.result (tree_of c.args.law.now.left) =
    subst (λ n. HasValue n one.kept one.looped c.compile-left.result (tree_of c.args.law.now.left)) (sym last_two) c.compile-left.ensures.value in
    record {
      variables_are = omega arith;
      few = omega arith;
      order = c.compile-right.ensures.order;
      left = value_kept two.last c.compile-left.result one.kept one.looped two.kept two.looped (tree_of c.args.law.now.left) left c.compile-right.ensures.kept c.compile-right.ensures.looped;
      right = c.compile-right.ensures.value;
    }
