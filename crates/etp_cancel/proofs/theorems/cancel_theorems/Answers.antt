use Rattle.etp_cancel.proofs.Onto.{onto}
use Rattle.etp_cancel.proofs.Putting.{cancels}
use Rattle.etp_cancel.proofs.Concluding.{concluded, proved, derived, same, chained}
use Rattle.etp_cancel.proofs.Turning.{dualised, undualised, dual_separated, undual_separated, apart, moved}
use Rattle.etp_cancel.proofs.FiniteReach.{reached, covered, never_both}
use Rattle.etp_cancel.proofs.theorems.cancel_theorems.Goals as goal

pub returns : goal.returns
returns c = record {
  onto = onto;
  cancels = cancels;
  concluded = concluded;
  proved = proved;
  derived = derived;
  same = same;
  chained = chained;
  dualised = λ e f. (dualised e f, undualised e f);
  apart = apart;
  moved = moved;
  dual_separated = λ e f. (dual_separated e f, undual_separated e f);
  reached = λ laws duals facts right e f p q h k r. reached laws duals facts right r p q h k;
  covered = λ laws duals facts right e f p q h k v. covered laws duals facts right v p q h k;
  never_both = λ laws duals facts right e f r v. never_both laws duals facts right r v;
}
