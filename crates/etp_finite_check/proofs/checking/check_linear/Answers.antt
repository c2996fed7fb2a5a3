use Rattle.std.proofs.Common.{◌≡◌, inr, refl, rules, subst}
use Rattle.etp_linear.specs.Magmas.{LinearMagma, IsLinearMagma}
use Rattle.etp_linear.specs.Linears.{magma_of}
use Rattle.etp_linear.specs.Judgements.{IsFirstOffence}
use Rattle.etp_items.specs.Bodies.{linear_in}
use Rattle.etp_finite_check.proofs.checking.check_linear.Goals as goal

pub returns-in-Err-judge-clause-err : goal.returns-in-Err-judge-clause-err
returns-in-Err-judge-clause-err c =
    let l = linear_in c.args.body.now in
    let is : magma_of c.in-Ok.linear ≡ l = search rules in
    let claims = c.args.body.now.claims in
    let offence : IsFirstOffence c.args.laws.now.equations (magma_of c.in-Ok.linear) claims.holds claims.fails c.in-Err-judge.refusal = rw (c.as_slice.ensures, c.as_slice-2.ensures) at c.in-Err-judge.ensures.err in
    inr (c.in-Err-judge.refusal, refl, inr (subst IsLinearMagma is c.in-Ok.ensures.in_range, subst (λ (m : LinearMagma). IsFirstOffence c.args.laws.now.equations m claims.holds claims.fails c.in-Err-judge.refusal) is offence))
