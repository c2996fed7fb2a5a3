use Rattle.etp_cancel.proofs.Turned.{proved, implied, differs, not_itself, not_renamed}
use Rattle.etp_cancel.proofs.theorems.cancel_examples.Goals as goal

pub returns : goal.returns
returns c = record {
  proved = proved;
  implied = implied;
  differs = differs;
  not_itself = not_itself;
  not_renamed = not_renamed;
}
