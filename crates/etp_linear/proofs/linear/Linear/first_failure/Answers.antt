use Rattle.std.proofs.Common.{refl, ◌∙◌}
use Rattle.std.specs.Prelude.{FitsSigned}
use Rattle.std.specs.Int.{w128}
use Rattle.std.proofs.lemmas.Int.{to_z-of_z}
use Rattle.etp_term.specs.Laws.{equation_of}
use Rattle.etp_linear.specs.Linears.{magma_of}
use Rattle.etp_linear.specs.Failures.{IsFirstFailure}
use Rattle.etp_linear.specs.declared.parts.LinearFailure.{LinearFailure}
use Rattle.etp_linear.proofs.Failing.{can_take, holds, first, fails, small_there}
use Rattle.etp_linear.proofs.linear.Linear.first_failure.Goals as goal

pub value_at-requires : goal.value_at-requires
value_at-requires c =
    let l = magma_of c.args.self.now in
    let ok = c.args.self.now.in_range in
    let e = equation_of c.args.law.now in
    can_take l ok e.left c.form_of-left.result c.in-Some.variable c.requires.left_ops c.form_of-left.ensures.numbers
    (small_there l ok e c.form_of-left.result c.form_of-right.result c.requires.left_variables c.requires.right_variables c.form_of-left.ensures.numbers c.form_of-right.ensures.numbers c.in-Some.variable c.in-Some.ensures)

pub value_at-requires-in-Some : goal.value_at-requires-in-Some
value_at-requires-in-Some c =
    let l = magma_of c.args.self.now in
    let ok = c.args.self.now.in_range in
    let e = equation_of c.args.law.now in
    can_take l ok e.right c.form_of-right.result c.in-Some.variable c.requires.right_ops c.form_of-right.ensures.numbers
    (small_there l ok e c.form_of-left.result c.form_of-right.result c.requires.left_variables c.requires.right_variables c.form_of-left.ensures.numbers c.form_of-right.ensures.numbers c.in-Some.variable c.in-Some.ensures)

pub returns-in-None-clause-none : goal.returns-in-None-clause-none
returns-in-None-clause-none c =
    let l = magma_of c.args.self.now in
    let ok = c.args.self.now.in_range in
    let e = equation_of c.args.law.now in
    (λ _. holds l ok e c.form_of-left.result c.form_of-right.result c.requires.left_variables c.requires.right_variables c.form_of-left.ensures.numbers c.form_of-right.ensures.numbers c.in-None.ensures, λ _. refl)

pub returns-in-Some-clause-some : goal.returns-in-Some-clause-some
returns-in-Some-clause-some c =
    let l = magma_of c.args.self.now in
    let ok = c.args.self.now.in_range in
    let e = equation_of c.args.law.now in
    let left : FitsSigned w128 c.value_at.result = record { sfits = c.value_at.type_inv } in
    let right : FitsSigned w128 c.value_at-in-Some.result = record { sfits = c.value_at-in-Some.type_inv } in
    first l ok e c.form_of-left.result c.form_of-right.result c.requires.left_variables c.requires.right_variables c.form_of-left.ensures.numbers c.form_of-right.ensures.numbers _ c.in-Some.ensures
    (to_z-of_z w128 _ left ∙ c.value_at.ensures) (to_z-of_z w128 _ right ∙ c.value_at-in-Some.ensures)

pub returns-in-Some-clause-none : goal.returns-in-Some-clause-none
returns-in-Some-clause-none c =
    let l = magma_of c.args.self.now in
    let ok = c.args.self.now.in_range in
    let e = equation_of c.args.law.now in
    let f : LinearFailure = record { variable = c.in-Some.variable; left = c.value_at.result; right = c.value_at-in-Some.result } in
    let is : IsFirstFailure l e f =
    first l ok e c.form_of-left.result c.form_of-right.result c.requires.left_variables c.requires.right_variables c.form_of-left.ensures.numbers c.form_of-right.ensures.numbers f c.in-Some.ensures c.value_at.ensures c.value_at-in-Some.ensures in
    (λ q. absurd (cc), λ h. absurd (fails l e f is h))
