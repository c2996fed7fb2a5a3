use Rattle.etp_complete.proofs.Deriving.{all_derived}
use Rattle.etp_completed.proofs.Rounds.{few}
use Rattle.etp_completed.proofs.Ends.{one_answer, one_end}
use Rattle.etp_completed.proofs.theorems.completion_theorems.Goals as goal

pub returns : goal.returns
returns c = record {
  one_answer = one_answer;
  one_end = λ p rules others a b range c d e f. one_end p range rules others a b c d e f;
  derived = λ p law rules listed c. all_derived p law listed c;
  few = λ p rules c. few p c;
}
