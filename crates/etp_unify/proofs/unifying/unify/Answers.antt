use Rattle.std.proofs.Common.{subst}
use Rattle.etp_unify.specs.Solving.{IsOutcome}
use Rattle.etp_term.specs.Terms.{tree_of}
use Rattle.etp_unify.specs.declared.solving.Pair.{Pair}
use Rattle.etp_unify.proofs.Most.{is_most, one_pair, one_pair_never}
use Rattle.etp_unify.proofs.unifying.unify.Goals as goal

pub subst_of-requires-clause-small : goal.subst_of-requires-clause-small
subst_of-requires-clause-small c = (subst (IsOutcome c.in_ok-pairs.pairs.items c.in_ok-bindings.bindings c.solve.new.bindings) c.if-branch.true c.in_ok-solve.ensures).small

pub returns-then-branch : goal.returns-then-branch
returns-then-branch c =
    let solved = subst (IsOutcome c.in_ok-pairs.pairs.items c.in_ok-bindings.bindings c.solve.new.bindings) c.if-branch.true c.in_ok-solve.ensures in
    let p : Pair = record { left = c.args.s; right = c.args.t } in
    is_most (tree_of c.args.s.now) (tree_of c.args.t.now) c.solve.new.bindings solved.triangular
    (one_pair p c.in_ok-pairs.pairs.items c.in_ok-bindings.bindings c.solve.new.bindings c.in_ok-pairs.ensures.items c.in_ok-bindings.ensures solved)
    c.in_ok-subst_of.field-0 c.in_ok-subst_of.ensures

pub returns : goal.returns
returns c =
    let p : Pair = record { left = c.args.s; right = c.args.t } in
    one_pair_never p c.in_ok-pairs.pairs.items c.in_ok-bindings.bindings c.in_ok-pairs.ensures.items c.in_ok-bindings.ensures (subst (IsOutcome c.in_ok-pairs.pairs.items c.in_ok-bindings.bindings c.solve.new.bindings) c.if-branch.false c.in_ok-solve.ensures)
