use Rattle.std.proofs.Common.{◌≡◌, inl, inr, sym, ap, ◌∙◌, subst, arith}
use Rattle.etp_theory.specs.Trees.{var, op, ops, Occurs}
use Rattle.etp_term.specs.Terms.{tree_of}
use Rattle.etp_term.proofs.Opened.{tree_of-var, tree_of-op}
use Rattle.etp_search.specs.Sets.{IsJoined}
use Rattle.etp_search.specs.Programs.{space_of}
use Rattle.etp_search.specs.Plugging.{plugged, IsContext, IsSteppedTo}
use Rattle.etp_search.proofs.Stepping.{context_left, context_right, joined_variable, joined_operation}
use Rattle.etp_search.proofs.expanding.+add_steps.Goals as goal

pub add_steps-requires : goal.add_steps-requires
add_steps-requires t c =
    let size : ops (tree_of c.args.term.now) ≡ t = c.decreases in
    let is : tree_of c.args.term.now ≡ op (tree_of c.get-in-Op.result.now) (tree_of c.in-Op.r) =
    ap tree_of c.in-Op.is ∙ tree_of-op _ _ ∙ ap (λ z. op (tree_of z) (tree_of c.in-Op.r)) (sym c.get-in-Op.ensures) in
    let less = ap ops is in
    let is_left : tree_of c.in_ok-left.left ≡ plugged (tree_of c.args.context.now) (op (var 255) (tree_of c.in-Op.r)) =
    c.in_ok-left.ensures ∙ (λ i. plugged (tree_of c.args.context.now) (op (tree_of-var 255 i) (ap tree_of (c.in_ok-copy.ensures ∙ c.get.ensures) i))) in (
      omega (arith, size, less),
      (
        c.requires.variables,
        (
          c.requires.leaves,
          (
            c.requires.left,
            (
              c.requires.right,
              (
                (λ v h. c.requires.term v (subst (Occurs v) (sym is) (inl h))),
                subst (IsContext c.args.space.variables) (sym is_left) (context_left c.args.space.variables c.requires.variables (tree_of c.args.context.now) c.requires.context (tree_of c.in-Op.r) (λ v h. c.requires.term v (subst (Occurs v) (sym is) (inr h)))),
              ),
            ),
          ),
        ),
      ),
    )

pub add_steps-requires-in-Op : goal.add_steps-requires-in-Op
add_steps-requires-in-Op t c =
    let size : ops (tree_of c.args.term.now) ≡ t = c.decreases in
    let is : tree_of c.args.term.now ≡ op (tree_of c.in-Op.l) (tree_of c.get-in-Op-3.result.now) =
    ap tree_of c.in-Op.is ∙ tree_of-op _ _ ∙ ap (λ z. op (tree_of c.in-Op.l) (tree_of z)) (sym c.get-in-Op-3.ensures) in
    let less = ap ops is in
    let is_right : tree_of c.in_ok-right.right ≡ plugged (tree_of c.args.context.now) (op (tree_of c.in-Op.l) (var 255)) =
    c.in_ok-right.ensures ∙ (λ i. plugged (tree_of c.args.context.now) (op (ap tree_of (c.in_ok-copy-2.ensures ∙ c.get-in-Op-2.ensures) i) (tree_of-var 255 i))) in (
      omega (arith, size, less),
      (
        c.requires.variables,
        (
          c.requires.leaves,
          (
            c.requires.left,
            (
              c.requires.right,
              (
                (λ v h. c.requires.term v (subst (Occurs v) (sym is) (inr h))),
                subst (IsContext c.args.space.variables) (sym is_right) (context_right c.args.space.variables c.requires.variables (tree_of c.args.context.now) c.requires.context (tree_of c.in-Op.l) (λ v h. c.requires.term v (subst (Occurs v) (sym is) (inl h)))),
              ),
            ),
          ),
        ),
      ),
    )

pub returns-in_ok-add_steps-2 : goal.returns-in_ok-add_steps-2
returns-in_ok-add_steps-2 t c =
    let is : tree_of c.args.term.now ≡ op (tree_of c.in-Op.l) (tree_of c.in-Op.r) = ap tree_of c.in-Op.is ∙ tree_of-op _ _ in
    let is_left : tree_of c.in_ok-left.left ≡ plugged (tree_of c.args.context.now) (op (var 255) (tree_of c.in-Op.r)) =
    c.in_ok-left.ensures ∙ (λ i. plugged (tree_of c.args.context.now) (op (tree_of-var 255 i) (ap tree_of (c.in_ok-copy.ensures ∙ c.get.ensures) i))) in
    let is_right : tree_of c.in_ok-right.right ≡ plugged (tree_of c.args.context.now) (op (tree_of c.in-Op.l) (var 255)) =
    c.in_ok-right.ensures ∙ (λ i. plugged (tree_of c.args.context.now) (op (ap tree_of (c.in_ok-copy-2.ensures ∙ c.get-in-Op-2.ensures) i) (tree_of-var 255 i))) in
    joined_operation (space_of c.args.space) c.args.most (tree_of c.args.context.now) c.args.found.now c.add_reading.new.found c.add_reading-2.new.found (tree_of c.args.term.now) c.in_ok-add_reading.ensures c.in_ok-add_reading-2.ensures
    c.add_steps.new.found c.add_steps-in-Op.new.found c.requires.variables c.requires.context (tree_of c.in-Op.l) (tree_of c.in-Op.r) is c.requires.term (tree_of c.in_ok-left.left) is_left (tree_of c.in_ok-right.right) is_right
    (subst (λ a. IsJoined (IsSteppedTo (space_of c.args.space) (tree_of c.in_ok-left.left) a) c.args.most c.add_reading-2.new.found c.add_steps.new.found) (ap tree_of c.get-in-Op.ensures) c.in_ok-add_steps.ensures)
    (subst (λ b. IsJoined (IsSteppedTo (space_of c.args.space) (tree_of c.in_ok-right.right) b) c.args.most c.add_steps.new.found c.add_steps-in-Op.new.found) (ap tree_of c.get-in-Op-3.ensures) c.in_ok-add_steps-2.ensures)

pub returns-in_default : goal.returns-in_default
returns-in_default t c =
    joined_variable (space_of c.args.space) c.args.most (tree_of c.args.context.now) c.args.found.now c.add_reading.new.found c.add_reading-2.new.found (tree_of c.args.term.now) c.in_ok-add_reading.ensures c.in_ok-add_reading-2.ensures
    c.in_default.field-0 (ap tree_of c.in_default.is ∙ tree_of-var _)
