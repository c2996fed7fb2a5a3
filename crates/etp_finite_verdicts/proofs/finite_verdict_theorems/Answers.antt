use Rattle.etp_finite_verdicts.proofs.OneFiniteBody.{one_body, body_stands}
use Rattle.etp_finite_verdicts.proofs.Verdicts.{one_offence, right_or_refused, accepted}
use Rattle.etp_finite_verdicts.proofs.finite_verdict_theorems.Goals as goal

pub returns : goal.returns
returns c = record { one_body = one_body; body_stands = body_stands; one_offence = one_offence; right_or_refused = right_or_refused; accepted = accepted }
