use Rattle.std.proofs.Common.{Some, ap, ◌∙◌, subst, sym}
use Rattle.etp_theory.specs.Rewriting.{Step}
use Rattle.etp_theory.specs.Positions.{put_at}
use Rattle.etp_theory.proofs.Finite.{finite_enough}
use Rattle.etp_theory.proofs.Rewriting.{step_of_at, at_of_step}
use Rattle.etp_theory.proofs.Weights.{step_falls}
use Rattle.etp_theory.proofs.rewriting_theorems.Goals as goal

pub returns : goal.returns
returns c = record {
  by_position = λ rules s t. (at_of_step rules, λ h. subst (Step rules s) (sym h.there) (step_of_at rules h.position h.number h.rule h.by s h.listed h.here));
  partial = λ rules s t h. let m = finite_enough h.by h.rule.left h.rule.right in (m.0, h.here ∙ ap Some (sym m.1), h.there ∙ ap (put_at h.position s) (sym m.2));
  falls = λ w rules all f s t d. step_falls w rules all f d;
}
