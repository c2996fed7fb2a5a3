use Rattle.etp_replay.proofs.OneStep.{one_step_check}
use Rattle.etp_replay.proofs.OneVerdict.{one_wrong, right_or_wrong, one_other, same_or_other, one_refusal, valid_or_refused}
use Rattle.etp_replay.proofs.replay_theorems.Goals as goal

pub returns : goal.returns
returns c = record {
  one_step_check = one_step_check;
  one_wrong = one_wrong;
  right_or_wrong = right_or_wrong;
  one_other = one_other;
  same_or_other = same_or_other;
  one_refusal = one_refusal;
  valid_or_refused = valid_or_refused;
}
