use Rattle.std.proofs.Common.{◌<◌, ℕ, subst, rules}
use Rattle.etp_theory.specs.Trees.{Tree}
use Rattle.etp_term.specs.Terms.{tree_of}
use Rattle.etp_match.specs.Bindings.{partial_of}
use Rattle.etp_unify.specs.Solving.{Respects, Equates, IsNext, IsDifference}
use Rattle.etp_unify.proofs.Rounds.{nothing_left, still_triangular, same_unifiers, fewer_left, still_small}
use Rattle.etp_unify.proofs.solving.solve.Goals as goal

pub loop-left-init : goal.loop-left-init
loop-left-init c = record { triangular = c.requires.triangular; small = c.requires.small; same = λ n. (λ u. u, λ u. u) }

pub returns-in_default : goal.returns-in_default
returns-in_default c =
    let all : (n : ℕ → Tree) → Respects n (partial_of c.loop-left.bindings) → Equates n c.loop-left.left.items =
    subst (IsNext (partial_of c.loop-left.bindings) c.loop-left.left.items c.next_difference.new.pairs.items) c.in_default.is c.in_ok-difference.ensures in
    record {
      triangular = c.loop-left.invariant.triangular;
      small = c.loop-left.invariant.small;
      same = λ n. (λ u. ((c.loop-left.invariant.same n).0 u).0, λ r. (c.loop-left.invariant.same n).1 (r, all n r));
    }

pub returns-then-stands_in : goal.returns-then-stands_in
returns-then-stands_in c = λ n r e.
    let d : IsDifference (partial_of c.loop-left.bindings) c.loop-left.left.items c.next_difference.new.pairs.items c.in-Some.difference.variable (tree_of c.in-Some.difference.value.now) =
    subst (IsNext (partial_of c.loop-left.bindings) c.loop-left.left.items c.next_difference.new.pairs.items) c.in-Some.is c.in_ok-difference.ensures in
    nothing_left c.loop-left.bindings c.loop-left.invariant.triangular c.loop-left.left.items c.next_difference.new.pairs.items c.in-Some.difference.variable c.in-Some.difference.value.now d (c.stands_in.ensures.yes c.if-stands_in.true) n ((c.loop-left.invariant.same n).0 (r, e))

pub leaves_of_all-requires : goal.leaves_of_all-requires
leaves_of_all-requires c =
    let d : IsDifference (partial_of c.loop-left.bindings) c.loop-left.left.items c.next_difference.new.pairs.items c.in-Some.difference.variable (tree_of c.in-Some.difference.value.now) =
    subst (IsNext (partial_of c.loop-left.bindings) c.loop-left.left.items c.next_difference.new.pairs.items) c.in-Some.is c.in_ok-difference.ensures in
    still_triangular c.loop-left.bindings c.loop-left.invariant.triangular c.loop-left.left.items c.next_difference.new.pairs.items c.in-Some.difference.variable c.in-Some.difference.value.now d (c.stands_in.ensures.no c.if-stands_in.false) c.bind.new.self c.bind.ensures

pub loop-left-smaller : goal.loop-left-smaller
loop-left-smaller c =
    let d : IsDifference (partial_of c.loop-left.bindings) c.loop-left.left.items c.next_difference.new.pairs.items c.in-Some.difference.variable (tree_of c.in-Some.difference.value.now) =
    subst (IsNext (partial_of c.loop-left.bindings) c.loop-left.left.items c.next_difference.new.pairs.items) c.in-Some.is c.in_ok-difference.ensures in
    let small : c.in-Some.difference.variable < 256 = search rules in
    fewer_left c.loop-left.bindings c.loop-left.invariant.triangular c.loop-left.left.items c.next_difference.new.pairs.items c.in-Some.difference.variable c.in-Some.difference.value.now d (c.stands_in.ensures.no c.if-stands_in.false) c.bind.new.self c.bind.ensures small

pub loop-left-preserved : goal.loop-left-preserved
loop-left-preserved c =
    let d : IsDifference (partial_of c.loop-left.bindings) c.loop-left.left.items c.next_difference.new.pairs.items c.in-Some.difference.variable (tree_of c.in-Some.difference.value.now) =
    subst (IsNext (partial_of c.loop-left.bindings) c.loop-left.left.items c.next_difference.new.pairs.items) c.in-Some.is c.in_ok-difference.ensures in
    let small : c.in-Some.difference.variable < 256 = search rules in
    let apart = c.stands_in.ensures.no c.if-stands_in.false in
    let same = same_unifiers c.loop-left.bindings c.loop-left.invariant.triangular c.loop-left.left.items c.next_difference.new.pairs.items c.in-Some.difference.variable c.in-Some.difference.value.now d apart c.bind.new.self c.bind.ensures in
    record {
      triangular = still_triangular c.loop-left.bindings c.loop-left.invariant.triangular c.loop-left.left.items c.next_difference.new.pairs.items c.in-Some.difference.variable c.in-Some.difference.value.now d apart c.bind.new.self c.bind.ensures;
      small = still_small c.loop-left.bindings c.loop-left.invariant.triangular c.loop-left.left.items c.next_difference.new.pairs.items c.in-Some.difference.variable c.in-Some.difference.value.now d apart c.bind.new.self c.bind.ensures small c.loop-left.invariant.small;
      same = λ n. (λ u. (same n).0 ((c.loop-left.invariant.same n).0 u), λ u. (c.loop-left.invariant.same n).1 ((same n).1 u));
    }
