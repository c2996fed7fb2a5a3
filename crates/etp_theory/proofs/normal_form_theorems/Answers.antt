use Rattle.etp_theory.proofs.NormalForms.{closed, holds_of_same, same_of_holds}
use Rattle.etp_theory.proofs.Convergent.{convergent_local, refuted, refuted_within}
use Rattle.etp_theory.proofs.normal_form_theorems.Goals as goal

pub returns : goal.returns
returns c = record {
  closed = λ w rules v. closed w rules v.decreasing;
  holds = λ w rules v e. (same_of_holds w rules v.decreasing (convergent_local w rules v) e.left e.right, holds_of_same w rules v.decreasing (convergent_local w rules v) e.left e.right);
  refuted = refuted;
  refuted_within = refuted_within;
}
