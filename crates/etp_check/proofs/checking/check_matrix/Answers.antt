use Rattle.std.proofs.Common.{◌≡◌, inr, refl, rules, subst}
use Rattle.etp_matrix.specs.Magmas.{MatrixMagma, IsMatrixMagma}
use Rattle.etp_matrix.specs.Linears.{magma_of}
use Rattle.etp_matrix.specs.Judgements.{IsFirstOffence}
use Rattle.etp_items.specs.Bodies.{matrix_in}
use Rattle.etp_check.proofs.checking.check_matrix.Goals as goal

pub returns-in-Err-judge-clause-err : goal.returns-in-Err-judge-clause-err
returns-in-Err-judge-clause-err c =
    let l = matrix_in c.args.body.now in
    let is : magma_of c.in-Ok.matrix ≡ l = search rules in
    let claims = c.args.body.now.claims in
    let offence : IsFirstOffence c.args.laws.now.equations (magma_of c.in-Ok.matrix) claims.holds claims.fails c.in-Err-judge.refusal = rw (c.as_slice-2.ensures, c.as_slice-3.ensures) at c.in-Err-judge.ensures.err in
    inr (c.in-Err-judge.refusal, refl, inr (subst IsMatrixMagma is c.in-Ok.ensures.in_range, subst (λ (m : MatrixMagma). IsFirstOffence c.args.laws.now.equations m claims.holds claims.fails c.in-Err-judge.refusal) is offence))
