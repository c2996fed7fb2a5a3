use Rattle.std.proofs.Common.{◌≡◌, List, [], ◌∷◌, ◌++◌, length, sym, ap, ◌∙◌, subst, arith}
use Rattle.etp_theory.specs.Trees.{var, op}
use Rattle.etp_term.specs.Terms.{tree_of}
use Rattle.etp_term.proofs.Opened.{tree_of-var, tree_of-op}
use Rattle.etp_match.specs.Bindings.{partial_of}
use Rattle.etp_unify.specs.Solving.{IsDifference}
use Rattle.etp_unify.specs.declared.solving.Pair.{Pair}
use Rattle.etp_unify.specs.declared.solving.Difference.{Difference}
use Rattle.etp_unify.proofs.Pairs.{parts_lighter, parts_same, same_lighter, same_same, left_difference, right_difference, none_equal}
use Rattle.etp_unify.proofs.solving.next_difference.Goals as goal

pub loop-pair-smaller-in-Continue-branch-2 : goal.loop-pair-smaller-in-Continue-branch-2
loop-pair-smaller-in-Continue-branch-2 c =
    let q : Pair = record { left = c.get-left.result; right = c.get-right.result } in
    let o : Pair = record { left = c.get-left-in-Op-Op.result; right = c.get-right-in-Op-Op.result } in
    let put : c.push-in-Op-Op.new.self.items ≡ (c.pop.new.self.items ++ q ∷ []) ++ o ∷ [] =
    c.in_ok-push-in-Op-Op-2.ensures.items ∙ ap (λ (ps : List Pair). ps ++ o ∷ []) c.in_ok-push-in-Op-Op.ensures.items in
    parts_lighter c.args.bindings.now c.requires c.loop-pair.pairs.items c.pop.new.self.items c.in-Some.pair c.in-Some.ensures.items
    (tree_of c.end_of-left.result.now) (tree_of c.end_of-right.result.now) c.end_of-left.ensures c.end_of-right.ensures
    (tree_of c.in-Op-Op.a) (tree_of c.in-Op-Op.b) (tree_of c.in-Op-Op.c) (tree_of c.in-Op-Op.d) q o c.push-in-Op-Op.new.self.items
    (ap tree_of c.in-Op-Op.is-0 ∙ tree_of-op _ _) (ap tree_of c.in-Op-Op.is-1 ∙ tree_of-op _ _)
    (ap tree_of c.get-left.ensures) (ap tree_of c.get-right.ensures) (ap tree_of c.get-left-in-Op-Op.ensures) (ap tree_of c.get-right-in-Op-Op.ensures)
    put

pub loop-pair-preserved-in-Continue-branch-2 : goal.loop-pair-preserved-in-Continue-branch-2
loop-pair-preserved-in-Continue-branch-2 c =
    let q : Pair = record { left = c.get-left.result; right = c.get-right.result } in
    let o : Pair = record { left = c.get-left-in-Op-Op.result; right = c.get-right-in-Op-Op.result } in
    let put : c.push-in-Op-Op.new.self.items ≡ (c.pop.new.self.items ++ q ∷ []) ++ o ∷ [] =
    c.in_ok-push-in-Op-Op-2.ensures.items ∙ ap (λ (ps : List Pair). ps ++ o ∷ []) c.in_ok-push-in-Op-Op.ensures.items in
    let same = parts_same c.args.bindings.now c.requires c.loop-pair.pairs.items c.pop.new.self.items c.in-Some.pair c.in-Some.ensures.items
    (tree_of c.end_of-left.result.now) (tree_of c.end_of-right.result.now) c.end_of-left.ensures c.end_of-right.ensures
    (tree_of c.in-Op-Op.a) (tree_of c.in-Op-Op.b) (tree_of c.in-Op-Op.c) (tree_of c.in-Op-Op.d) q o c.push-in-Op-Op.new.self.items
    (ap tree_of c.in-Op-Op.is-0 ∙ tree_of-op _ _) (ap tree_of c.in-Op-Op.is-1 ∙ tree_of-op _ _)
    (ap tree_of c.get-left.ensures) (ap tree_of c.get-right.ensures) (ap tree_of c.get-left-in-Op-Op.ensures) (ap tree_of c.get-right-in-Op-Op.ensures)
    put in
    λ n k. (λ g. (same n k).0 ((c.loop-pair.invariant n k).0 g), λ g. (c.loop-pair.invariant n k).1 ((same n k).1 g))

pub loop-pair-smaller : goal.loop-pair-smaller
loop-pair-smaller c =
    same_lighter c.args.bindings.now c.requires c.loop-pair.pairs.items c.pop.new.self.items c.in-Some.pair c.in-Some.ensures.items
    (tree_of c.end_of-left.result.now) (tree_of c.end_of-right.result.now) c.end_of-left.ensures c.end_of-right.ensures

pub loop-pair-preserved : goal.loop-pair-preserved
loop-pair-preserved c =
    let left : tree_of c.end_of-left.result.now ≡ var c.in-Var-Var.v = ap tree_of c.in-Var-Var.is-0 ∙ tree_of-var _ in
    let right : tree_of c.end_of-right.result.now ≡ var c.in-Var-Var.w = ap tree_of c.in-Var-Var.is-1 ∙ tree_of-var _ in
    let same = same_same c.args.bindings.now c.requires c.loop-pair.pairs.items c.pop.new.self.items c.in-Some.pair c.in-Some.ensures.items
    (tree_of c.end_of-left.result.now) (tree_of c.end_of-right.result.now) c.end_of-left.ensures c.end_of-right.ensures
    (left ∙ ap var c.if-v-w.false ∙ sym right) in
    λ n k. (λ g. (same n k).0 ((c.loop-pair.invariant n k).0 g), λ g. (c.loop-pair.invariant n k).1 ((same n k).1 g))

pub returns-then-v-w : goal.returns-then-v-w
returns-then-v-w c =
    let left : tree_of c.end_of-left.result.now ≡ var c.in-Var-Var.v = ap tree_of c.in-Var-Var.is-0 ∙ tree_of-var _ in
    let right : tree_of c.end_of-right.result.now ≡ var c.in-Var-Var.w = ap tree_of c.in-Var-Var.is-1 ∙ tree_of-var _ in
    subst (λ (d : Difference). IsDifference (partial_of c.args.bindings.now) c.args.pairs.now.items c.pop.new.self.items d.variable (tree_of d.value.now)) (sym c.of-then-v-w.ensures)
    (left_difference c.args.bindings.now c.requires c.loop-pair.pairs.items c.pop.new.self.items c.in-Some.pair c.in-Some.ensures.items
    (tree_of c.end_of-left.result.now) (tree_of c.end_of-right.result.now) c.end_of-left.ensures c.end_of-right.ensures
    c.in-Var-Var.v left (λ e. c.if-v-w.true (let f : var c.in-Var-Var.w ≡ var c.in-Var-Var.v = sym right ∙ e in cc)) c.args.pairs.now.items c.loop-pair.invariant)

pub returns-in-Var-Op : goal.returns-in-Var-Op
returns-in-Var-Op c =
    let left : tree_of c.end_of-left.result.now ≡ var c.in-Var-Op.v = ap tree_of c.in-Var-Op.is-0 ∙ tree_of-var _ in
    let right : tree_of c.end_of-right.result.now ≡ op (tree_of c.in-Var-Op.field-0-1) (tree_of c.in-Var-Op.field-1-1) = ap tree_of c.in-Var-Op.is-1 ∙ tree_of-op _ _ in
    subst (λ (d : Difference). IsDifference (partial_of c.args.bindings.now) c.args.pairs.now.items c.pop.new.self.items d.variable (tree_of d.value.now)) (sym c.of-in-Var-Op.ensures)
    (left_difference c.args.bindings.now c.requires c.loop-pair.pairs.items c.pop.new.self.items c.in-Some.pair c.in-Some.ensures.items
    (tree_of c.end_of-left.result.now) (tree_of c.end_of-right.result.now) c.end_of-left.ensures c.end_of-right.ensures
    c.in-Var-Op.v left (λ e. let f : op (tree_of c.in-Var-Op.field-0-1) (tree_of c.in-Var-Op.field-1-1) ≡ var c.in-Var-Op.v = sym right ∙ e in cc) c.args.pairs.now.items c.loop-pair.invariant)

pub returns-in-Op-Var : goal.returns-in-Op-Var
returns-in-Op-Var c =
    let right : tree_of c.end_of-right.result.now ≡ var c.in-Op-Var.w = ap tree_of c.in-Op-Var.is-1 ∙ tree_of-var _ in
    let left : tree_of c.end_of-left.result.now ≡ op (tree_of c.in-Op-Var.field-0-0) (tree_of c.in-Op-Var.field-1-0) = ap tree_of c.in-Op-Var.is-0 ∙ tree_of-op _ _ in
    subst (λ (d : Difference). IsDifference (partial_of c.args.bindings.now) c.args.pairs.now.items c.pop.new.self.items d.variable (tree_of d.value.now)) (sym c.of.ensures)
    (right_difference c.args.bindings.now c.requires c.loop-pair.pairs.items c.pop.new.self.items c.in-Some.pair c.in-Some.ensures.items
    (tree_of c.end_of-left.result.now) (tree_of c.end_of-right.result.now) c.end_of-left.ensures c.end_of-right.ensures
    c.in-Op-Var.w right (λ e. let f : op (tree_of c.in-Op-Var.field-0-0) (tree_of c.in-Op-Var.field-1-0) ≡ var c.in-Op-Var.w = sym left ∙ e in cc) c.args.pairs.now.items c.loop-pair.invariant)

pub returns : goal.returns
returns c =
    let none : length c.loop-pair.pairs.items ≡ 0 = omega (arith, c.in_default.ensures.cases.0, c.loop-pair.pairs.ok.0) in
    λ n k. (c.loop-pair.invariant n k).1 (none_equal n c.loop-pair.pairs.items none)
