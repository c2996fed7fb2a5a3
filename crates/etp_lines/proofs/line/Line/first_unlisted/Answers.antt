use Rattle.etp_lines.proofs.line.Line.first_unlisted.Goals as goal

pub returns-in-Proof : goal.returns-in-Proof
returns-in-Proof c = rw c.in-Proof.is c.first_unlisted.ensures

pub returns-in-Claim : goal.returns-in-Claim
returns-in-Claim c = rw c.in-Claim.is c.first_unlisted-in-Claim.ensures
