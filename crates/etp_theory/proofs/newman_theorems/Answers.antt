use Rattle.etp_theory.proofs.Newman.{confluent}
use Rattle.etp_theory.proofs.NormalForms.{normal_stuck, normal_convertible}
use Rattle.etp_theory.proofs.newman_theorems.Goals as goal

pub returns : goal.returns
returns c = record {
  confluent = λ w rules all local s a b d d'. confluent w rules all local d d';
  unique = λ w rules all local s a d h. normal_stuck w rules all local d h;
  one_form = λ w rules all local s t d. normal_convertible w rules all local d;
}
