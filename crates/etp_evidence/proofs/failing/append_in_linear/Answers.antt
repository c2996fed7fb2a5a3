use Rattle.std.proofs.Common.{refl, subst}
use Rattle.etp_term.specs.Laws.{equation_of}
use Rattle.etp_linear.specs.Magmas.{LinearMagma}
use Rattle.etp_linear.specs.Failures.{IsFirstFailure}
use Rattle.etp_print.specs.EvidenceTexts.{linear_failure}
use Rattle.etp_evidence.proofs.Shown.{OnOk-then}
use Rattle.etp_evidence.proofs.failing.append_in_linear.Goals as goal

pub returns : goal.returns
returns c = OnOk-then c.append_linear_failure.result _ _ (λ h. record {
  line = linear_failure c.args.number c.in-Some.failure;
  is = (
    c.in-Some.failure,
    record {
      law = equation_of c.listed.result.now;
      listed = c.listed.ensures.law;
      first = subst (λ (l : LinearMagma). IsFirstFailure l (equation_of c.listed.result.now) c.in-Some.failure) c.linear_of-linear.ensures c.in-Some.ensures.some;
    },
    refl,
  );
  appended = h;
}) c.append_linear_failure.ensures
