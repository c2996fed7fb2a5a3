use Rattle.std.proofs.Common.{rules, refl, None, Some}
use Rattle.etp_term.specs.Laws.{equation_of}
use Rattle.etp_matrix.specs.Linears.{magma_of}
use Rattle.etp_matrix.specs.Failures.{IsFirstFailure}
use Rattle.etp_matrix.specs.Walks.{form}
use Rattle.etp_matrix.specs.declared.parts.MatrixFailure.{MatrixFailure}
use Rattle.etp_matrix.proofs.Failing.{holds, fails, fails_at_zero, fails_at_unit}
use Rattle.etp_matrix.proofs.matrix_linear.MatrixLinear.first_failure.Goals as goal

pub returns-then-ne-clause-some : goal.returns-then-ne-clause-some
returns-then-ne-clause-some c =
    let l = c.args.self.now in
    fails_at_zero (magma_of l) l.in_range (equation_of c.args.law.now) (form c.write_form.new.matrices c.write_form.new.constant) (form c.write_form-2.new.matrices c.write_form-2.new.constant)
    c.requires.left_variables c.requires.right_variables c.write_form.ensures c.write_form-2.ensures (search rules)

pub returns-then-ne-clause-none : goal.returns-then-ne-clause-none
returns-then-ne-clause-none c =
    let l = c.args.self.now in
    let f : MatrixFailure = record { at = None; left = c.write_form.new.constant; right = c.write_form-2.new.constant } in
    let is : IsFirstFailure (magma_of l) (equation_of c.args.law.now) f =
    fails_at_zero (magma_of l) l.in_range (equation_of c.args.law.now) (form c.write_form.new.matrices c.write_form.new.constant) (form c.write_form-2.new.matrices c.write_form-2.new.constant)
    c.requires.left_variables c.requires.right_variables c.write_form.ensures c.write_form-2.ensures (search rules) in
    (λ q. absurd (cc), λ h. absurd (fails (magma_of l) (equation_of c.args.law.now) f is h))

pub returns-in-None-clause-none : goal.returns-in-None-clause-none
returns-in-None-clause-none c =
    let l = c.args.self.now in (
      λ _. holds (magma_of l) l.in_range (equation_of c.args.law.now) (form c.write_form.new.matrices c.write_form.new.constant) (form c.write_form-2.new.matrices c.write_form-2.new.constant)
          c.requires.left_variables c.requires.right_variables c.write_form.ensures c.write_form-2.ensures (search rules) c.in-None.ensures,
      λ _. refl,
    )

pub returns-in-Some-clause-some : goal.returns-in-Some-clause-some
returns-in-Some-clause-some c =
    let l = c.args.self.now in
    fails_at_unit (magma_of l) l.in_range (equation_of c.args.law.now) (form c.write_form.new.matrices c.write_form.new.constant) (form c.write_form-2.new.matrices c.write_form-2.new.constant)
    c.requires.left_variables c.requires.right_variables c.write_form.ensures c.write_form-2.ensures c.in-Some.v c.in-Some.k c.sum.result c.sum-in-Some.result (search rules) c.in-Some.ensures c.sum.ensures c.sum-in-Some.ensures

pub returns-in-Some-clause-none : goal.returns-in-Some-clause-none
returns-in-Some-clause-none c =
    let l = c.args.self.now in
    let f : MatrixFailure = record { at = Some (c.in-Some.v, c.in-Some.k); left = c.sum.result; right = c.sum-in-Some.result } in
    let is : IsFirstFailure (magma_of l) (equation_of c.args.law.now) f =
    fails_at_unit (magma_of l) l.in_range (equation_of c.args.law.now) (form c.write_form.new.matrices c.write_form.new.constant) (form c.write_form-2.new.matrices c.write_form-2.new.constant)
    c.requires.left_variables c.requires.right_variables c.write_form.ensures c.write_form-2.ensures c.in-Some.v c.in-Some.k c.sum.result c.sum-in-Some.result (search rules) c.in-Some.ensures c.sum.ensures c.sum-in-Some.ensures in
    (λ q. absurd (cc), λ h. absurd (fails (magma_of l) (equation_of c.args.law.now) f is h))
