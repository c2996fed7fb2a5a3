-- A refused claim about a rule system, as a body's refusal says it.
use Rattle.etp_canonical.specs.declared.refusal.ClaimRefusal.{ClaimRefusal}
use Rattle.etp_canonical.specs.declared.refusal.ClaimRefusal.TheVariants as Claim
use Rattle.etp_check.specs.declared.refusal.CheckRefusal.{CheckRefusal}
use Rattle.etp_check.specs.declared.refusal.CheckRefusal.TheVariants.{HoldsFails, FailsHolds, TermLimit, StepLimit, NoMemory}

-- with the same law and forms
abbrev pub claim_refused : ClaimRefusal → CheckRefusal
claim_refused (Claim.HoldsFails law u v) = HoldsFails law u v
claim_refused (Claim.FailsHolds law u) = FailsHolds law u
claim_refused (Claim.TermLimit law) = TermLimit law
claim_refused (Claim.StepLimit law) = StepLimit law
claim_refused Claim.NoMemory = NoMemory
