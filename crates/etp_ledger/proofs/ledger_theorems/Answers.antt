use Rattle.etp_ledger.proofs.Verdicts.{accepted_or_refused, right_or_refused, one_refusal, withdrawn_or_refused, one_withdrawal_refusal, one_more, one_less}
use Rattle.etp_ledger.proofs.ledger_theorems.Goals as goal

pub returns : goal.returns
returns c = record {
  accepted_or_refused = accepted_or_refused;
  right_or_refused = λ l files name body r free cited right refused. right_or_refused l files name body free cited right r refused;
  one_refusal = one_refusal;
  withdrawn_or_refused = withdrawn_or_refused;
  one_withdrawal_refusal = one_withdrawal_refusal;
  one_more = one_more;
  one_less = one_less;
}
