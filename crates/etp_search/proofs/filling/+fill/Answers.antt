use Rattle.std.proofs.Common.{◌≡◌, ◌<◌, ◌≤◌, ◌+◌, ◌-◌, ◌*◌, ℕ, ap, ◌∙◌, subst, arith}
use Rattle.etp_theory.specs.Trees.{var, op, leaves}
use Rattle.etp_theory.specs.Substitutions.{apply}
use Rattle.etp_term.specs.Terms.{tree_of}
use Rattle.etp_term.proofs.Opened.{tree_of-op, tree_of-var}
use Rattle.etp_search.specs.Sets.{IsJoined}
use Rattle.etp_search.specs.Filling.{at_one, IsFilled}
use Rattle.etp_search.specs.Programs.{space_of}
use Rattle.etp_search.proofs.Opening.{filled}
use Rattle.etp_search.proofs.Joining.{joined_none}
use Rattle.etp_search.proofs.SlotFilling.{too_wide, without_slots, variable_falls, variable_open, variable_room, variables_more, operation_falls, operation_open, operation_room, slot_filled, all_below}
use Rattle.etp_search.proofs.filling.+fill.Goals as goal

pub returns-then-leaves-space : goal.returns-then-leaves-space
returns-then-leaves-space t c =
    let n = c.leaves.ensures in
    let h = c.if-leaves-space.true in
    joined_none (IsFilled (space_of c.args.space) (tree_of c.args.slotted.now)) c.args.most c.args.found.now (λ u f. too_wide (space_of c.args.space) (tree_of c.args.slotted.now) u (omega (arith, n, h)) f)

pub returns-in_default : goal.returns-in_default
returns-in_default t c =
    let n = c.leaves.ensures in
    let h = c.if-leaves-space.false in
    without_slots (space_of c.args.space) c.args.next c.args.most (tree_of c.args.slotted.now) (tree_of c.in_ok-term.term) c.args.found.now c.add.new.self (ap tree_of c.in_ok-term.ensures) c.requires.variables c.requires.slots c.in_default.ensures (omega (arith, n, h)) c.in_ok-add.ensures

pub fill-requires : goal.fill-requires
fill-requires t c =
    let u = tree_of c.args.slotted.now in
    let v = c.loop-variable.variable in
    let size : 4 * c.args.space.leaves + 2 - filled (tree_of c.args.slotted.now) ≡ t = c.decreases in
    let n = c.leaves.ensures in
    let h = c.if-leaves-space.false in
    let narrow : leaves u ≤ c.args.space.leaves = omega (arith, n, h) in
    let few = c.requires.variables in
    let lt = c.loop-variable-test.true in
    let is : tree_of c.in_ok-closed.closed ≡ apply (at_one c.in-Some.slot (var v)) u = c.in_ok-closed.ensures ∙ ap (λ w. apply (at_one c.in-Some.slot w) u) (tree_of-var v) in
    let falls = variable_falls c.in-Some.slot v u _ is c.args.space.leaves c.in-Some.ensures.0 c.in-Some.ensures.1 (omega (arith, few, lt)) narrow in (
      omega (arith, size, falls),
      (
        few,
        (
          variable_open c.in-Some.slot v u _ is c.args.space.variables c.args.next lt c.requires.slots,
          (c.requires.next, variable_room c.in-Some.slot v u _ is (c.args.next + c.args.space.leaves) 192 c.requires.room),
        ),
      ),
    )

pub loop-variable-preserved : goal.loop-variable-preserved
loop-variable-preserved t c =
    let u = tree_of c.args.slotted.now in
    let v = c.loop-variable.variable in
    let is : tree_of c.in_ok-closed.closed ≡ apply (at_one c.in-Some.slot (var v)) u = c.in_ok-closed.ensures ∙ ap (λ w. apply (at_one c.in-Some.slot w) u) (tree_of-var v) in
    variables_more c.in-Some.slot v u _ is (space_of c.args.space) c.args.most c.args.found.now c.loop-variable.found c.fill.new.found c.loop-variable.invariant c.in_ok-fill.ensures

pub fill-requires-2 : goal.fill-requires-2
fill-requires-2 t c =
    let u = tree_of c.args.slotted.now in
    let x = c.in-Some.slot in
    let size : 4 * c.args.space.leaves + 2 - filled (tree_of c.args.slotted.now) ≡ t = c.decreases in
    let n = c.leaves.ensures in
    let h = c.if-leaves-space.false in
    let narrow : leaves u ≤ c.args.space.leaves = omega (arith, n, h) in
    let few = c.requires.variables in
    let big = c.requires.next in
    let is : tree_of c.in_ok-wider.wider ≡ apply (at_one x (op (var x) (var c.args.next))) u =
    c.in_ok-wider.ensures ∙ ap (λ w. apply (at_one x w) u) (tree_of-op _ _ ∙ (λ i. op ((ap tree_of c.in_ok-left.ensures ∙ tree_of-var x) i) ((ap tree_of c.in_ok-right.ensures ∙ tree_of-var c.args.next) i))) in
    let below = all_below c.args.space.variables c.args.next u (omega (arith, few, big)) c.requires.slots x c.in-Some.ensures.1 in
    let falls = operation_falls x c.args.next u _ is c.args.space.leaves c.in-Some.ensures.0 c.in-Some.ensures.1 narrow in
    let room = operation_room x c.args.next u _ is (c.args.next + c.args.space.leaves) 192 c.in-Some.ensures.1 c.requires.room in (
      omega (arith, size, falls),
      (
        few,
        (
          operation_open x c.args.next u _ is c.args.space.variables c.in-Some.ensures.0 below c.requires.slots,
          (omega (arith, big), omega (arith, room)),
        ),
      ),
    )

pub returns : goal.returns
returns t c =
    let u = tree_of c.args.slotted.now in
    let x = c.in-Some.slot in
    let few = c.requires.variables in
    let big = c.requires.next in
    let is : tree_of c.in_ok-wider.wider ≡ apply (at_one x (op (var x) (var c.args.next))) u =
    c.in_ok-wider.ensures ∙ ap (λ w. apply (at_one x w) u) (tree_of-op _ _ ∙ (λ i. op ((ap tree_of c.in_ok-left.ensures ∙ tree_of-var x) i) ((ap tree_of c.in_ok-right.ensures ∙ tree_of-var c.args.next) i))) in
    let last = c.loop-variable-test.false in
    let end = c.loop-variable.auto.variable-end in
    let at_end : c.loop-variable.variable ≡ c.args.space.variables = omega (arith, last, end) in
    slot_filled x c.args.next u _ is (space_of c.args.space) c.args.most c.args.found.now c.loop-variable.found c.fill-2.new.found few c.in-Some.ensures.0 c.in-Some.ensures.1
    (all_below c.args.space.variables c.args.next u (omega (arith, few, big)) c.requires.slots)
    (subst (λ m. IsJoined (λ t. (w : ℕ) × (w < m) × IsFilled (space_of c.args.space) (apply (at_one x (var w)) u) t) c.args.most c.args.found.now c.loop-variable.found) at_end c.loop-variable.invariant)
    c.in_ok-fill-2.ensures
