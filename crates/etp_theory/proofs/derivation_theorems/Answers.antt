use Rattle.etp_theory.specs.Derivations.{by_law}
use Rattle.etp_theory.proofs.Derivations.{derives_itself, substituted, dualised, undualised, chained, inside}
use Rattle.etp_theory.proofs.Finite.{partial_of_total, total_of_partial}
use Rattle.etp_theory.proofs.derivation_theorems.Goals as goal

pub returns : goal.returns
returns c = record {
  itself = derives_itself;
  substituted = λ e p q s d. substituted e s d;
  dualised = λ e f. (λ d. dualised e d, undualised e f);
  chained = λ e f g d d'. chained e f d d';
  inside = inside;
  step = λ e p s m h. inside e p s _ _ h (by_law m);
  finite = λ e p q. (partial_of_total e, total_of_partial e);
}
