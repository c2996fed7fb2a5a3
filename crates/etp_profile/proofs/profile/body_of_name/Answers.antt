use Rattle.std.proofs.Common.{sym}
use Rattle.etp_profile.proofs.PlaceLemmas.{body_at, unplaced}
use Rattle.etp_profile.proofs.profile.body_of_name.Goals as goal

pub returns-in_err-place-clause-body : goal.returns-in_err-place-clause-body
returns-in_err-place-clause-body c = rw c.from_residual.ensures (sym (unplaced c.args.name.now c.args.ledger.now.files (sym c.in_err-place.ensures)))

pub returns-clause-body : goal.returns-clause-body
returns-clause-body c = sym (body_at c.args.name.now c.args.ledger.now.files c.in_ok-place.place _ (sym c.in_ok-place.ensures) c.in-Some.ensures.file)
