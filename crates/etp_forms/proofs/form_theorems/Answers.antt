use Rattle.std.proofs.Common.{ℕ, ℤ, List}
use Rattle.etp_forms.specs.Theorems.{FormTheorems}
use Rattle.etp_forms.proofs.Values as Values
use Rattle.etp_forms.proofs.form_theorems.Goals as goal

laws : (A : Type 0) → FormTheorems A
laws A = record {
  closed = λ inside times f h. Values.closed inside times f h;
  value = λ inside times f h r i n t b. Values.value inside times f h r i n t b;
  at_origin = λ inside times f h t. Values.at_origin inside times f h t;
  at_one = λ inside times f h v z i t. Values.at_one inside times f h v z i t;
  holds = λ inside times f h gs g p q. (Values.holds_one_form inside times f h gs g p q, Values.one_form_holds inside times f h gs g p q);
}

pub returns-clause-integers : goal.returns-clause-integers
returns-clause-integers c = laws ℤ

pub returns-clause-vectors : goal.returns-clause-vectors
returns-clause-vectors c = laws (List ℕ)
