-- The theorems on verdicts and refusals.
use Rattle.etp_table.specs.Theorems.{VerdictTheorems}
use Rattle.etp_table.proofs.Entries.{one_wrong_entry, entries_or_wrong}
use Rattle.etp_table.proofs.Failures.{one_failure, agrees_or_fails}
use Rattle.etp_table.proofs.Offences.{judged_or_refused, one_offence}

pub verdict_theorems : VerdictTheorems
verdict_theorems = record {
  one_failure = one_failure;
  agrees_or_fails = agrees_or_fails;
  one_wrong_entry = one_wrong_entry;
  entries_or_wrong = entries_or_wrong;
  judged_or_refused = judged_or_refused;
  one_offence = one_offence;
}
