use Rattle.etp_rules.proofs.Refusals.{never_both, one_refusal}
use Rattle.etp_rules.proofs.theorems.rules_theorems.Goals as goal

pub returns : goal.returns
returns c = record { never_both = never_both; one_refusal = one_refusal }
