use Rattle.std.proofs.Common.{◌≡◌, ◌+◌, refl, sym, ap, ◌∙◌, arith}
use Rattle.etp_theory.specs.Trees.{var, op, ops}
use Rattle.etp_term.specs.Terms.{tree_of}
use Rattle.etp_term.specs.declared.term.Term.TheVariants.{Var}
use Rattle.etp_term.proofs.Opened.{tree_of-var, tree_of-op}
use Rattle.etp_match.specs.Bindings.{partial_of}
use Rattle.etp_match.proofs.Extending.{value_new}
use Rattle.etp_pairs.proofs.Names.{room_left, noted_before, noted_now, room_on_left, room_on_right, noted_both, some_value, none_value}
use Rattle.etp_pairs.proofs.naming.+note.Goals as goal

pub returns-then-is_some : goal.returns-then-is_some
returns-then-is_some t c =
    let is : tree_of c.args.term.now ≡ var c.in-Var.v = ap tree_of c.in-Var.is ∙ tree_of-var _ in
    let r = some_value _ _ c.get.ensures (sym c.is_some.ensures ∙ c.if-is_some.true) in
    noted_before (partial_of c.args.names.now) c.args.count c.in-Var.v _ r.0 c.requires.names is r.1

pub overflow_add-result : goal.overflow_add-result
overflow_add-result t c =
    let is : tree_of c.args.term.now ≡ var c.in-Var.v = ap tree_of c.in-Var.is ∙ tree_of-var _ in
    let free = none_value _ _ c.get.ensures (sym c.is_some.ensures ∙ c.if-is_some.false) in
    omega (arith, room_left (partial_of c.args.names.now) c.args.count c.in-Var.v _ c.requires.names c.requires.room is free)

pub note-requires : goal.note-requires
note-requires t c =
    let is : tree_of c.args.term.now ≡ op (tree_of c.get-in-Op.result.now) (tree_of c.in-Op.r) = ap tree_of c.in-Op.is ∙ tree_of-op _ _ ∙ ap (λ z. op (tree_of z) (tree_of c.in-Op.r)) (sym c.get-in-Op.ensures) in
    let size : ops (tree_of c.args.term.now) ≡ t = c.decreases in
    let less : ops (tree_of c.args.term.now) ≡ ops (tree_of c.get-in-Op.result.now) + ops (tree_of c.in-Op.r) + 1 = ap ops is in
    (omega (arith, size, less), (c.requires.names, room_on_left (partial_of c.args.names.now) _ _ _ is c.requires.room))

pub note-requires-in-Op : goal.note-requires-in-Op
note-requires-in-Op t c =
    let is : tree_of c.args.term.now ≡ op (tree_of c.get-in-Op.result.now) (tree_of c.get-in-Op-2.result.now) = ap tree_of c.in-Op.is ∙ tree_of-op _ _ ∙ (λ i. op (tree_of (sym c.get-in-Op.ensures i)) (tree_of (sym c.get-in-Op-2.ensures i))) in
    let size : ops (tree_of c.args.term.now) ≡ t = c.decreases in
    let less : ops (tree_of c.args.term.now) ≡ ops (tree_of c.get-in-Op.result.now) + ops (tree_of c.get-in-Op-2.result.now) + 1 = ap ops is in
    let noted = c.in_ok-after-in-Op.ensures in
    (omega (arith, size, less), (noted.names, room_on_right (partial_of c.args.names.now) (partial_of c.note.new.names) _ _ _ _ _ is c.requires.room noted))

pub returns-in_ok-bind-in-Var : goal.returns-in_ok-bind-in-Var
returns-in_ok-bind-in-Var t c =
    let is : tree_of c.args.term.now ≡ var c.in-Var.v = ap tree_of c.in-Var.is ∙ tree_of-var _ in
    let free = none_value _ _ c.get.ensures (sym c.is_some.ensures ∙ c.if-is_some.false) in
    noted_now (partial_of c.args.names.now) (partial_of c.bind.new.self) c.args.count c.in-Var.v _ c.requires.names is free
    (rw (tree_of-var c.args.count) at (value_new (var c.in-Var.v) (Var c.args.count) c.in-Var.v c.args.names.now c.bind.new.self refl free c.in_ok-bind-in-Var.ensures.ok))

pub returns-in_ok-last-in-Op : goal.returns-in_ok-last-in-Op
returns-in_ok-last-in-Op t c =
    let is : tree_of c.args.term.now ≡ op (tree_of c.get-in-Op.result.now) (tree_of c.get-in-Op-2.result.now) = ap tree_of c.in-Op.is ∙ tree_of-op _ _ ∙ (λ i. op (tree_of (sym c.get-in-Op.ensures i)) (tree_of (sym c.get-in-Op-2.ensures i))) in
    noted_both (partial_of c.args.names.now) (partial_of c.note.new.names) (partial_of c.note-in-Op.new.names) _ _ _ _ _ _ is c.in_ok-after-in-Op.ensures c.in_ok-last-in-Op.ensures
