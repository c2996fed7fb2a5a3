use Rattle.std.proofs.Common.{◌≡◌, ◌+◌, ℕ, rules, arith, sym, subst, ap, ap₂, ◌∙◌, refl}
use Rattle.std.specs.Prelude.{ℤ, pos, ◌+ℤ◌, ◌*ℤ◌, ◌<◌, FitsSigned, slice_set, length}
use Rattle.std.specs.Int.{w128, w64}
use Rattle.std.proofs.lemmas.Int.{to_z-of_z, ints}
use mir.Val.{to_z, of_z}
use Rattle.std.proofs.lemmas.List.{get_or-set_same, get_or-set_other, length-set}
use Rattle.etp_theory.specs.Trees.{var, op, ops}
use Rattle.etp_term.specs.Terms.{tree_of}
use Rattle.etp_term.specs.declared.term.Term.{Term}
use Rattle.etp_term.proofs.Opened.{tree_of-var, tree_of-op}
use Rattle.etp_linear.specs.Linears.{magma_of}
use Rattle.etp_linear.specs.Magmas.{reduced}
use Rattle.etp_linear.specs.Values.{coefficient_at}
use Rattle.etp_linear.specs.Walks.{CanGain, Gains, CanAdd, CanMultiply}
use Rattle.etp_linear.specs.declared.parts.Form.{Form}
use Rattle.etp_linear.proofs.Walks.{can_multiply, can_add_constant, can_add, Began, can_left, can_right, gained, gained_var}
use Rattle.etp_linear.proofs.linear.Linear.+gain.Goals as goal

left_less : (m n : ℕ) → m < m + n + 1
left_less m n = omega arith

right_less : (m n : ℕ) → n < m + n + 1
right_less m n = omega arith

wide : (z : ℤ) → FitsSigned w64 z → to_z w128 (of_z w128 (to_z w64 (of_z w64 z))) ≡ z
wide z h = omega (arith, ints)

pub plus-requires : goal.plus-requires
plus-requires t c =
    let l = magma_of c.args.self.now in
    let f = c.args.factor in
    let is : tree_of c.args.term.now ≡ var c.in-Var.v = ap tree_of c.in-Var.is ∙ tree_of-var c.in-Var.v in
    let can = subst (λ x. CanGain l x f c.args.form.now) is c.requires in
    let h : c.in-Var.v < 8 = omega (arith, can.variables) in
    let z = coefficient_at c.args.form.now c.in-Var.v in
    let zf : FitsSigned w128 z = search rules in
    subst (CanAdd l.ring _) (sym (to_z-of_z w128 f c.ranges.factor))
    (subst (λ x. CanAdd l.ring x f) (sym (to_z-of_z w128 z zf))
    (can_add l.ring f z can.factor_inside (can.each_inside c.in-Var.v h) (can.each_room c.in-Var.v h)))

pub times-added-requires : goal.times-added-requires
times-added-requires t c =
    let l = magma_of c.args.self.now in
    let ok = c.args.self.now.in_range in
    let f = c.args.factor in
    let form = c.args.form.now in
    let s = tree_of c.in-Op.l in
    let u = tree_of c.in-Op.r in
    let is : tree_of c.args.term.now ≡ op s u = ap tree_of c.in-Op.is ∙ tree_of-op c.in-Op.l c.in-Op.r in
    let can = subst (λ x. CanGain l x f form) is c.requires in
    let fe = to_z-of_z w128 f c.ranges.factor in
    let kf : FitsSigned w64 c.args.self.now.c = search rules in
    subst (λ x. CanMultiply l.ring x (to_z w128 (of_z w128 (to_z w64 (of_z w64 c.args.self.now.c))))) (sym fe) (subst (CanMultiply l.ring f) (sym (wide c.args.self.now.c kf))
    (can_multiply l.ring (ops s) (ops u) f l.c form.constant can.factor_inside ok.c_in_range can.constant_room))

pub plus-form-requires : goal.plus-form-requires
plus-form-requires t c =
    let l = magma_of c.args.self.now in
    let ok = c.args.self.now.in_range in
    let f = c.args.factor in
    let form = c.args.form.now in
    let s = tree_of c.in-Op.l in
    let u = tree_of c.in-Op.r in
    let is : tree_of c.args.term.now ≡ op s u = ap tree_of c.in-Op.is ∙ tree_of-op c.in-Op.l c.in-Op.r in
    let can = subst (λ x. CanGain l x f form) is c.requires in
    let fe = to_z-of_z w128 f c.ranges.factor in
    let cf : FitsSigned w64 c.args.self.now.c = search rules in
    let added : c.times-added.result ≡ reduced l.ring (f *ℤ l.c) = c.times-added.ensures ∙ ap₂ (λ x y. reduced l.ring (x *ℤ y)) fe (wide c.args.self.now.c cf) in
    let addedf : FitsSigned w128 c.times-added.result = record { sfits = c.times-added.type_inv } in
    let constantf : FitsSigned w128 form.constant = search rules in
    subst (λ x. CanAdd l.ring x (to_z w128 (of_z w128 c.times-added.result))) (sym (to_z-of_z w128 _ constantf)) (subst (CanAdd l.ring form.constant) (sym (to_z-of_z w128 _ addedf ∙ added))
    (can_add_constant l.ring ok.modulus (ops s) (ops u) f l.c form.constant can.constant_inside ok.c_in_range can.constant_room))

pub times-to_left-requires : goal.times-to_left-requires
times-to_left-requires t c =
    let l = magma_of c.args.self.now in
    let ok = c.args.self.now.in_range in
    let f = c.args.factor in
    let form = c.args.form.now in
    let s = tree_of c.in-Op.l in
    let u = tree_of c.in-Op.r in
    let is : tree_of c.args.term.now ≡ op s u = ap tree_of c.in-Op.is ∙ tree_of-op c.in-Op.l c.in-Op.r in
    let can = subst (λ x. CanGain l x f form) is c.requires in
    let fe = to_z-of_z w128 f c.ranges.factor in
    let kf : FitsSigned w64 c.args.self.now.a = search rules in
    subst (λ x. CanMultiply l.ring x (to_z w128 (of_z w128 (to_z w64 (of_z w64 c.args.self.now.a))))) (sym fe) (subst (CanMultiply l.ring f) (sym (wide c.args.self.now.a kf))
    (can_multiply l.ring (ops s) (ops u) f l.a form.constant can.factor_inside ok.a_in_range can.constant_room))

pub gain-requires : goal.gain-requires
gain-requires t c =
    let size : ops (tree_of c.args.term.now) ≡ t = c.decreases in
    let l = magma_of c.args.self.now in
    let ok = c.args.self.now.in_range in
    let f = c.args.factor in
    let form = c.args.form.now in
    let s = tree_of c.in-Op.l in
    let u = tree_of c.in-Op.r in
    let is : tree_of c.args.term.now ≡ op s u = ap tree_of c.in-Op.is ∙ tree_of-op c.in-Op.l c.in-Op.r in
    let can = subst (λ x. CanGain l x f form) is c.requires in
    let fe = to_z-of_z w128 f c.ranges.factor in
    let cf : FitsSigned w64 c.args.self.now.c = search rules in
    let added : c.times-added.result ≡ reduced l.ring (f *ℤ l.c) = c.times-added.ensures ∙ ap₂ (λ x y. reduced l.ring (x *ℤ y)) fe (wide c.args.self.now.c cf) in
    let addedf : FitsSigned w128 c.times-added.result = record { sfits = c.times-added.type_inv } in
    let constantf : FitsSigned w128 form.constant = search rules in
    let sumf : FitsSigned w128 c.plus-form.result = record { sfits = c.plus-form.type_inv } in
    let new : Form = record { coefficients = form.coefficients; constant = to_z w128 (of_z w128 c.plus-form.result) } in
    let began : Began l f form new = record { length_kept = refl; coefficients = λ v. refl; constant = to_z-of_z w128 _ sumf ∙ c.plus-form.ensures ∙ ap₂ (λ x y. reduced l.ring (x +ℤ y)) (to_z-of_z w128 _ constantf) (to_z-of_z w128 _ addedf ∙ added) } in
    let af : FitsSigned w64 c.args.self.now.a = search rules in
    let leftf : FitsSigned w128 c.times-to_left.result = record { sfits = c.times-to_left.type_inv } in
    let to = to_z w128 (of_z w128 c.times-to_left.result) in
    let left : to ≡ reduced l.ring (f *ℤ l.a) = to_z-of_z w128 _ leftf ∙ c.times-to_left.ensures ∙ ap₂ (λ x y. reduced l.ring (x *ℤ y)) fe (wide c.args.self.now.a af) in
    let less : ops (tree_of c.get.result.now) < t = subst (λ (n : ℕ). ops (tree_of c.get.result.now) < n) (sym (ap ops is) ∙ size) (subst (λ (x : Term). ops (tree_of x) < ops (op s u)) (sym c.get.ensures) (left_less (ops s) (ops u))) in
    (less, subst (λ (x : Term). CanGain l (tree_of x) to new) (sym c.get.ensures) (can_left l ok s u f to form new can began left))

pub times-to_right-requires : goal.times-to_right-requires
times-to_right-requires t c =
    let l = magma_of c.args.self.now in
    let ok = c.args.self.now.in_range in
    let f = c.args.factor in
    let form = c.args.form.now in
    let s = tree_of c.in-Op.l in
    let u = tree_of c.in-Op.r in
    let is : tree_of c.args.term.now ≡ op s u = ap tree_of c.in-Op.is ∙ tree_of-op c.in-Op.l c.in-Op.r in
    let can = subst (λ x. CanGain l x f form) is c.requires in
    let fe = to_z-of_z w128 f c.ranges.factor in
    let kf : FitsSigned w64 c.args.self.now.b = search rules in
    subst (λ x. CanMultiply l.ring x (to_z w128 (of_z w128 (to_z w64 (of_z w64 c.args.self.now.b))))) (sym fe) (subst (CanMultiply l.ring f) (sym (wide c.args.self.now.b kf))
    (can_multiply l.ring (ops s) (ops u) f l.b form.constant can.factor_inside ok.b_in_range can.constant_room))

pub gain-requires-in-Op : goal.gain-requires-in-Op
gain-requires-in-Op t c =
    let size : ops (tree_of c.args.term.now) ≡ t = c.decreases in
    let l = magma_of c.args.self.now in
    let ok = c.args.self.now.in_range in
    let f = c.args.factor in
    let form = c.args.form.now in
    let s = tree_of c.in-Op.l in
    let u = tree_of c.in-Op.r in
    let is : tree_of c.args.term.now ≡ op s u = ap tree_of c.in-Op.is ∙ tree_of-op c.in-Op.l c.in-Op.r in
    let can = subst (λ x. CanGain l x f form) is c.requires in
    let fe = to_z-of_z w128 f c.ranges.factor in
    let cf : FitsSigned w64 c.args.self.now.c = search rules in
    let added : c.times-added.result ≡ reduced l.ring (f *ℤ l.c) = c.times-added.ensures ∙ ap₂ (λ x y. reduced l.ring (x *ℤ y)) fe (wide c.args.self.now.c cf) in
    let addedf : FitsSigned w128 c.times-added.result = record { sfits = c.times-added.type_inv } in
    let constantf : FitsSigned w128 form.constant = search rules in
    let sumf : FitsSigned w128 c.plus-form.result = record { sfits = c.plus-form.type_inv } in
    let new : Form = record { coefficients = form.coefficients; constant = to_z w128 (of_z w128 c.plus-form.result) } in
    let began : Began l f form new = record { length_kept = refl; coefficients = λ v. refl; constant = to_z-of_z w128 _ sumf ∙ c.plus-form.ensures ∙ ap₂ (λ x y. reduced l.ring (x +ℤ y)) (to_z-of_z w128 _ constantf) (to_z-of_z w128 _ addedf ∙ added) } in
    let af : FitsSigned w64 c.args.self.now.a = search rules in
    let leftf : FitsSigned w128 c.times-to_left.result = record { sfits = c.times-to_left.type_inv } in
    let to = to_z w128 (of_z w128 c.times-to_left.result) in
    let left : to ≡ reduced l.ring (f *ℤ l.a) = to_z-of_z w128 _ leftf ∙ c.times-to_left.ensures ∙ ap₂ (λ x y. reduced l.ring (x *ℤ y)) fe (wide c.args.self.now.a af) in
    let bf : FitsSigned w64 c.args.self.now.b = search rules in
    let rightf : FitsSigned w128 c.times-to_right.result = record { sfits = c.times-to_right.type_inv } in
    let on = to_z w128 (of_z w128 c.times-to_right.result) in
    let right : on ≡ reduced l.ring (f *ℤ l.b) = to_z-of_z w128 _ rightf ∙ c.times-to_right.ensures ∙ ap₂ (λ x y. reduced l.ring (x *ℤ y)) fe (wide c.args.self.now.b bf) in
    let gains : Gains l s to new c.gain.new.form = subst (λ (x : Term). Gains l (tree_of x) to new c.gain.new.form) c.get.ensures c.gain.ensures in
    let less : ops (tree_of c.get-in-Op.result.now) < t = subst (λ (n : ℕ). ops (tree_of c.get-in-Op.result.now) < n) (sym (ap ops is) ∙ size) (subst (λ (x : Term). ops (tree_of x) < ops (op s u)) (sym c.get-in-Op.ensures) (right_less (ops s) (ops u))) in
    (less, subst (λ (x : Term). CanGain l (tree_of x) on c.gain.new.form) (sym c.get-in-Op.ensures) (can_right l ok s u f to on form new c.gain.new.form can began left gains right))

pub returns-in-Var : goal.returns-in-Var
returns-in-Var t c =
    let l = magma_of c.args.self.now in
    let f = c.args.factor in
    let form = c.args.form.now in
    let v = c.in-Var.v in
    let is : tree_of c.args.term.now ≡ var v = ap tree_of c.in-Var.is ∙ tree_of-var v in
    let can = subst (λ x. CanGain l x f form) is c.requires in
    let z = coefficient_at form v in
    let zf : FitsSigned w128 z = search rules in
    let sumf : FitsSigned w128 c.plus.result = record { sfits = c.plus.type_inv } in
    let long : length form.coefficients ≡ 8 = search rules in
    let h : v < length form.coefficients = omega (arith, can.variables) in
    let new : Form = record { coefficients = slice_set form.coefficients v (to_z w128 (of_z w128 c.plus.result)); constant = form.constant } in
    subst (λ x. Gains l x f form new) (sym is)
    (gained_var l c.args.self.now.in_range v f form new can (length-set form.coefficients v _) refl
    (get_or-set_same form.coefficients v _ (pos 0) h ∙ to_z-of_z w128 _ sumf ∙ c.plus.ensures ∙ ap₂ (λ x y. reduced l.ring (x +ℤ y)) (to_z-of_z w128 z zf) (to_z-of_z w128 f c.ranges.factor))
    (λ w d. get_or-set_other form.coefficients v w _ (pos 0) d))

pub returns-in-Op : goal.returns-in-Op
returns-in-Op t c =
    let l = magma_of c.args.self.now in
    let ok = c.args.self.now.in_range in
    let f = c.args.factor in
    let form = c.args.form.now in
    let s = tree_of c.in-Op.l in
    let u = tree_of c.in-Op.r in
    let is : tree_of c.args.term.now ≡ op s u = ap tree_of c.in-Op.is ∙ tree_of-op c.in-Op.l c.in-Op.r in
    let can = subst (λ x. CanGain l x f form) is c.requires in
    let fe = to_z-of_z w128 f c.ranges.factor in
    let cf : FitsSigned w64 c.args.self.now.c = search rules in
    let added : c.times-added.result ≡ reduced l.ring (f *ℤ l.c) = c.times-added.ensures ∙ ap₂ (λ x y. reduced l.ring (x *ℤ y)) fe (wide c.args.self.now.c cf) in
    let addedf : FitsSigned w128 c.times-added.result = record { sfits = c.times-added.type_inv } in
    let constantf : FitsSigned w128 form.constant = search rules in
    let sumf : FitsSigned w128 c.plus-form.result = record { sfits = c.plus-form.type_inv } in
    let new : Form = record { coefficients = form.coefficients; constant = to_z w128 (of_z w128 c.plus-form.result) } in
    let began : Began l f form new = record { length_kept = refl; coefficients = λ v. refl; constant = to_z-of_z w128 _ sumf ∙ c.plus-form.ensures ∙ ap₂ (λ x y. reduced l.ring (x +ℤ y)) (to_z-of_z w128 _ constantf) (to_z-of_z w128 _ addedf ∙ added) } in
    let af : FitsSigned w64 c.args.self.now.a = search rules in
    let leftf : FitsSigned w128 c.times-to_left.result = record { sfits = c.times-to_left.type_inv } in
    let to = to_z w128 (of_z w128 c.times-to_left.result) in
    let left : to ≡ reduced l.ring (f *ℤ l.a) = to_z-of_z w128 _ leftf ∙ c.times-to_left.ensures ∙ ap₂ (λ x y. reduced l.ring (x *ℤ y)) fe (wide c.args.self.now.a af) in
    let bf : FitsSigned w64 c.args.self.now.b = search rules in
    let rightf : FitsSigned w128 c.times-to_right.result = record { sfits = c.times-to_right.type_inv } in
    let on = to_z w128 (of_z w128 c.times-to_right.result) in
    let right : on ≡ reduced l.ring (f *ℤ l.b) = to_z-of_z w128 _ rightf ∙ c.times-to_right.ensures ∙ ap₂ (λ x y. reduced l.ring (x *ℤ y)) fe (wide c.args.self.now.b bf) in
    let gains : Gains l s to new c.gain.new.form = subst (λ (x : Term). Gains l (tree_of x) to new c.gain.new.form) c.get.ensures c.gain.ensures in
    let ends : Gains l u on c.gain.new.form c.gain-in-Op.new.form = subst (λ (x : Term). Gains l (tree_of x) on c.gain.new.form c.gain-in-Op.new.form) c.get-in-Op.ensures c.gain-in-Op.ensures in
    subst (λ x. Gains l x f form c.gain-in-Op.new.form) (sym is) (gained l ok s u f to on form new c.gain.new.form c.gain-in-Op.new.form began left gains right ends)
