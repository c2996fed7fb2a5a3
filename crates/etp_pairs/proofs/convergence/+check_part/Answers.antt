use Rattle.std.proofs.Common.{◌≡◌, ◌+◌, [], ◌∷◌, length, sym, ap, ◌∙◌, subst, arith, length-append}
use Rattle.std.proofs.lemmas.Result.{err_from_is_err_and}
use Rattle.etp_theory.specs.Trees.{var, op, ops}
use Rattle.etp_term.specs.Terms.{tree_of}
use Rattle.etp_term.specs.Positions.{position_of}
use Rattle.etp_term.specs.declared.position.Side.TheVariants.{L, R}
use Rattle.etp_term.proofs.Opened.{tree_of-var, tree_of-op}
use Rattle.etp_rules.specs.Rules.{rules_of}
use Rattle.etp_pairs.specs.Among.{InPart, IsRefusedAmong, AllPass, IsPartOf}
use Rattle.etp_pairs.proofs.Order.{variable_passes, on_left, on_right, part_passes, position_fails, left_fails, right_fails, further_left, further_right}
use Rattle.etp_pairs.proofs.convergence.+check_part.Goals as goal

pub returns-in-Var-clause-ok : goal.returns-in-Var-clause-ok
returns-in-Var-clause-ok t c =
    let is : tree_of c.args.part.now ≡ var c.in-Var.field-0 = ap tree_of c.in-Var.is ∙ tree_of-var _ in
    variable_passes (rules_of c.args.system.now.rules) c.args.outer (position_of c.args.position.now) c.in-Var.field-0 _ c.requires.part is

pub returns-in_err-check_position-in-Op-clause-err : goal.returns-in_err-check_position-in-Op-clause-err
returns-in_err-check_position-in-Op-clause-err t c =
    let p = err_from_is_err_and c.from_residual.result c.from_residual.ensures.1 in
    rw (p.1, p.2) (position_fails (rules_of c.args.system.now.rules) c.args.outer (position_of c.args.position.now) c.in_err-check_position-in-Op.field-0.0 c.in_err-check_position-in-Op.ensures.err)

pub check_part-requires : goal.check_part-requires
check_part-requires t c =
    let is : tree_of c.args.part.now ≡ op (tree_of c.get.result.now) (tree_of c.in-Op.r) = ap tree_of c.in-Op.is ∙ tree_of-op _ _ ∙ ap (λ z. op (tree_of z) (tree_of c.in-Op.r)) (sym c.get.ensures) in
    let size : ops (tree_of c.args.part.now) ≡ t = c.decreases in
    let less : ops (tree_of c.args.part.now) ≡ ops (tree_of c.get.result.now) + ops (tree_of c.in-Op.r) + 1 = ap ops is in
    let longer : length c.in_ok-on_left-in-Op.on_left ≡ length c.args.position.now + 1 = ap length c.in_ok-on_left-in-Op.ensures ∙ length-append c.args.position.now (L ∷ []) in (
      omega (arith, size, less),
      (
        subst (λ q. IsPartOf (rules_of c.args.system.now.rules) c.args.outer q (tree_of c.get.result.now)) (sym (further_left c.args.position.now c.in_ok-on_left-in-Op.on_left c.in_ok-on_left-in-Op.ensures))
            (on_left (rules_of c.args.system.now.rules) c.args.outer (position_of c.args.position.now) _ _ _ c.requires.part is),
        omega (arith, longer, less, c.requires.short),
      ),
    )

pub returns-in_err-check_part-in-Op-clause-err : goal.returns-in_err-check_part-in-Op-clause-err
returns-in_err-check_part-in-Op-clause-err t c =
    let p = err_from_is_err_and c.from_residual-in_err-check_part-in-Op.result c.from_residual-in_err-check_part-in-Op.ensures.1 in
    let refusal = c.in_err-check_part-in-Op.field-0.0 in
    let further = further_left c.args.position.now c.in_ok-on_left-in-Op.on_left c.in_ok-on_left-in-Op.ensures in
    rw (p.1, p.2) (left_fails (rules_of c.args.system.now.rules) c.args.outer (position_of c.args.position.now) c.in_ok-check_position-in-Op.ensures.ok refusal
    (subst (λ q. IsRefusedAmong (rules_of c.args.system.now.rules) (InPart c.args.outer q) refusal) further c.in_err-check_part-in-Op.ensures.err))

pub check_part-requires-in-Op : goal.check_part-requires-in-Op
check_part-requires-in-Op t c =
    let is : tree_of c.args.part.now ≡ op (tree_of c.in-Op.l) (tree_of c.get-in-Op.result.now) = ap tree_of c.in-Op.is ∙ tree_of-op _ _ ∙ ap (λ z. op (tree_of c.in-Op.l) (tree_of z)) (sym c.get-in-Op.ensures) in
    let size : ops (tree_of c.args.part.now) ≡ t = c.decreases in
    let less : ops (tree_of c.args.part.now) ≡ ops (tree_of c.in-Op.l) + ops (tree_of c.get-in-Op.result.now) + 1 = ap ops is in
    let longer : length c.in_ok-on_right-in-Op.on_right ≡ length c.args.position.now + 1 = ap length c.in_ok-on_right-in-Op.ensures ∙ length-append c.args.position.now (R ∷ []) in (
      omega (arith, size, less),
      (
        subst (λ q. IsPartOf (rules_of c.args.system.now.rules) c.args.outer q (tree_of c.get-in-Op.result.now)) (sym (further_right c.args.position.now c.in_ok-on_right-in-Op.on_right c.in_ok-on_right-in-Op.ensures))
            (on_right (rules_of c.args.system.now.rules) c.args.outer (position_of c.args.position.now) _ _ _ c.requires.part is),
        omega (arith, longer, less, c.requires.short),
      ),
    )

pub returns-in_err-check_part-in-Op-2-clause-err : goal.returns-in_err-check_part-in-Op-2-clause-err
returns-in_err-check_part-in-Op-2-clause-err t c =
    let p = err_from_is_err_and c.from_residual-in_err-check_part-in-Op-2.result c.from_residual-in_err-check_part-in-Op-2.ensures.1 in
    let refusal = c.in_err-check_part-in-Op-2.field-0.0 in
    let rules = rules_of c.args.system.now.rules in
    let left = further_left c.args.position.now c.in_ok-on_left-in-Op.on_left c.in_ok-on_left-in-Op.ensures in
    let right = further_right c.args.position.now c.in_ok-on_right-in-Op.on_right c.in_ok-on_right-in-Op.ensures in
    rw (p.1, p.2) (right_fails rules c.args.outer (position_of c.args.position.now) c.in_ok-check_position-in-Op.ensures.ok
    (subst (λ q. AllPass rules (InPart c.args.outer q)) left c.in_ok-check_part-in-Op.ensures.ok) refusal
    (subst (λ q. IsRefusedAmong rules (InPart c.args.outer q) refusal) right c.in_err-check_part-in-Op-2.ensures.err))

pub returns-in_ok-check_part-in-Op-2-clause-ok : goal.returns-in_ok-check_part-in-Op-2-clause-ok
returns-in_ok-check_part-in-Op-2-clause-ok t c =
    let rules = rules_of c.args.system.now.rules in
    let left = further_left c.args.position.now c.in_ok-on_left-in-Op.on_left c.in_ok-on_left-in-Op.ensures in
    let right = further_right c.args.position.now c.in_ok-on_right-in-Op.on_right c.in_ok-on_right-in-Op.ensures in
    part_passes rules c.args.outer (position_of c.args.position.now) c.in_ok-check_position-in-Op.ensures.ok
    (subst (λ q. AllPass rules (InPart c.args.outer q)) left c.in_ok-check_part-in-Op.ensures.ok)
    (subst (λ q. AllPass rules (InPart c.args.outer q)) right c.in_ok-check_part-in-Op-2.ensures.ok)
