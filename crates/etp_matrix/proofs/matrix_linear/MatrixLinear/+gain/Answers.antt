use Rattle.std.proofs.Common.{◌≡◌, ◌+◌, ◌<◌, ℕ, rules, arith, sym, subst, ap, ◌∙◌, refl, length}
use Rattle.std.specs.Prelude.{slice_set}
use Rattle.std.proofs.lemmas.List.{get_or-set_same, get_or-set_other}
use Rattle.etp_theory.specs.Trees.{var, op, ops}
use Rattle.etp_term.specs.Terms.{tree_of}
use Rattle.etp_term.specs.declared.term.Term.{Term}
use Rattle.etp_term.proofs.Opened.{tree_of-var, tree_of-op}
use Rattle.etp_matrix.specs.Values.{plus, column, by_columns}
use Rattle.etp_matrix.specs.Walks.{IsVector, applied, CanGain, Gains, form}
use Rattle.etp_matrix.proofs.Modules.{product_vector}
use Rattle.etp_matrix.proofs.Growth.{wide_vector, some, can_left, can_right, gained, gained_var}
use Rattle.etp_matrix.proofs.matrix_linear.MatrixLinear.+gain.Goals as goal

left_less : (m n : ℕ) → m < m + n + 1
left_less m n = omega arith

right_less : (m n : ℕ) → n < m + n + 1
right_less m n = omega arith

pub sum-requires-clause-y : goal.sum-requires-clause-y
sum-requires-clause-y t c =
    let l = c.args.self.now in
    let long : length l.c ≡ 4 = search rules in
    subst (IsVector l.modulus 4) (sym c.apply-added.ensures) (product_vector l.modulus 4 (some l long) (by_columns c.args.factor.now) l.c)

pub extended-to_left-requires-clause-matrix : goal.extended-to_left-requires-clause-matrix
extended-to_left-requires-clause-matrix t c =
    let l = c.args.self.now in
    let long : length l.c ≡ 4 = search rules in
    λ k. wide_vector l.modulus l.size l.a (some l long) l.in_range.a_below k

pub extended-to_right-requires-clause-matrix : goal.extended-to_right-requires-clause-matrix
extended-to_right-requires-clause-matrix t c =
    let l = c.args.self.now in
    let long : length l.c ≡ 4 = search rules in
    λ k. wide_vector l.modulus l.size l.b (some l long) l.in_range.b_below k

pub gain-requires : goal.gain-requires
gain-requires t c =
    let size : ops (tree_of c.args.term.now) ≡ t = c.decreases in
    let l = c.args.self.now in
    let long : length l.c ≡ 4 = search rules in
    let p = c.args.factor.now in
    let old = form c.args.matrices.now c.args.constant.now in
    let s = tree_of c.in-Op.l in
    let u = tree_of c.in-Op.r in
    let is : tree_of c.args.term.now ≡ op s u = ap tree_of c.in-Op.is ∙ tree_of-op c.in-Op.l c.in-Op.r in
    let can = subst (λ x. CanGain l x p old) is c.requires in
    let added : c.sum.result ≡ plus l.modulus 4 c.args.constant.now (applied l.modulus p l.c) = c.sum.ensures ∙ ap (plus l.modulus 4 c.args.constant.now) {y = applied l.modulus p l.c} c.apply-added.ensures in
    let less : ops (tree_of c.get.result.now) < t = subst (λ (n : ℕ). ops (tree_of c.get.result.now) < n) (sym (ap ops is) ∙ size) (subst (λ (x : Term). ops (tree_of x) < ops (op s u)) (sym c.get.ensures) (left_less (ops s) (ops u))) in (
      less,
      subst (λ (x : Term). CanGain l (tree_of x) c.extended-to_left.result (form c.args.matrices.now c.sum.result)) (sym c.get.ensures)
          (can_left l long s u p c.extended-to_left.result old c.sum.result can c.extended-to_left.ensures added),
    )

pub gain-requires-in-Op : goal.gain-requires-in-Op
gain-requires-in-Op t c =
    let size : ops (tree_of c.args.term.now) ≡ t = c.decreases in
    let l = c.args.self.now in
    let long : length l.c ≡ 4 = search rules in
    let p = c.args.factor.now in
    let old = form c.args.matrices.now c.args.constant.now in
    let new = form c.gain.new.matrices c.gain.new.constant in
    let s = tree_of c.in-Op.l in
    let u = tree_of c.in-Op.r in
    let is : tree_of c.args.term.now ≡ op s u = ap tree_of c.in-Op.is ∙ tree_of-op c.in-Op.l c.in-Op.r in
    let can = subst (λ x. CanGain l x p old) is c.requires in
    let gains = subst (λ (x : Term). Gains l (tree_of x) c.extended-to_left.result (form c.args.matrices.now c.sum.result) new) c.get.ensures c.gain.ensures in
    let less : ops (tree_of c.get-in-Op.result.now) < t = subst (λ (n : ℕ). ops (tree_of c.get-in-Op.result.now) < n) (sym (ap ops is) ∙ size) (subst (λ (x : Term). ops (tree_of x) < ops (op s u)) (sym c.get-in-Op.ensures) (right_less (ops s) (ops u))) in (
      less,
      subst (λ (x : Term). CanGain l (tree_of x) c.extended-to_right.result new) (sym c.get-in-Op.ensures)
          (can_right l long s u p c.extended-to_left.result c.extended-to_right.result old (form c.args.matrices.now c.sum.result) new can gains c.extended-to_right.ensures),
    )

pub returns-in-Op : goal.returns-in-Op
returns-in-Op t c =
    let l = c.args.self.now in
    let long : length l.c ≡ 4 = search rules in
    let p = c.args.factor.now in
    let old = form c.args.matrices.now c.args.constant.now in
    let new = form c.gain.new.matrices c.gain.new.constant in
    let end = form c.gain-in-Op.new.matrices c.gain-in-Op.new.constant in
    let s = tree_of c.in-Op.l in
    let u = tree_of c.in-Op.r in
    let is : tree_of c.args.term.now ≡ op s u = ap tree_of c.in-Op.is ∙ tree_of-op c.in-Op.l c.in-Op.r in
    let gains = subst (λ (x : Term). Gains l (tree_of x) c.extended-to_left.result (form c.args.matrices.now c.sum.result) new) c.get.ensures c.gain.ensures in
    let added : c.sum.result ≡ plus l.modulus 4 c.args.constant.now (applied l.modulus p l.c) = c.sum.ensures ∙ ap (plus l.modulus 4 c.args.constant.now) {y = applied l.modulus p l.c} c.apply-added.ensures in
    let ends = subst (λ (x : Term). Gains l (tree_of x) c.extended-to_right.result new end) c.get-in-Op.ensures c.gain-in-Op.ensures in
    subst (λ x. Gains l x p old end) (sym is)
    (gained l long s u p c.extended-to_left.result c.extended-to_right.result old new end c.sum.result added c.extended-to_left.ensures gains c.extended-to_right.ensures ends)

pub returns-in-Var : goal.returns-in-Var
returns-in-Var t c =
    let l = c.args.self.now in
    let long : length l.c ≡ 4 = search rules in
    let p = c.args.factor.now in
    let old = form c.args.matrices.now c.args.constant.now in
    let v = c.in-Var.v in
    let is : tree_of c.args.term.now ≡ var v = ap tree_of c.in-Var.is ∙ tree_of-var v in
    let can = subst (λ x. CanGain l x p old) is c.requires in
    let eight : length c.args.matrices.now ≡ 8 = search rules in
    let h : v < length c.args.matrices.now = omega (arith, can.variables) in
    let new = form (slice_set c.args.matrices.now v c.sum_of_matrices.result) c.args.constant.now in
    subst (λ x. Gains l x p old new) (sym is)
    (gained_var l long v p old new can refl
    (λ k i. ap (λ w. column w k) (get_or-set_same c.args.matrices.now v _ _ h) ∙ c.sum_of_matrices.ensures k i)
    (λ w d. get_or-set_other c.args.matrices.now v w _ _ d))
