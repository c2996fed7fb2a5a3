use Rattle.etp_cancel.proofs.Concluding as Concluding
use Rattle.etp_separation.proofs.TableFacts.{table_finite, table_right}
use Rattle.etp_separation.proofs.LinearFacts.{linear_finite, same_laws, linear_right}
use Rattle.etp_separation.proofs.theorems.separation_theorems.Goals as goal

pub returns : goal.returns
returns c = record {
  table_finite = table_finite;
  linear_finite = λ l m e is. linear_finite m l e is;
  same_laws = λ l m e is p. same_laws m l e is p;
  proof_right = λ laws e f p q lemmas h k valid. record {
    hypothesis = p;
    goal = q;
    hypothesis_listed = h;
    goal_listed = k;
    implied = Concluding.proved p q lemmas valid;
  };
  table_right = table_right;
  linear_right = λ laws l m holds fails e is judged. linear_right m l e is laws holds fails judged;
}
