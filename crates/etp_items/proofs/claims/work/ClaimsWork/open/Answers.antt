use Rattle.std.proofs.Common.{refl, ap, ◌≡◌}
use Rattle.etp_lines.specs.Said.{claim_line_of}
use Rattle.etp_lines.specs.Claims.{holds}
use Rattle.etp_items.proofs.ModelLemmas.{claims_opened}
use Rattle.etp_items.proofs.claims.work.ClaimsWork.open.Goals as goal

pub returns-in-Holds : goal.returns-in-Holds
returns-in-Holds c =
    let said : claim_line_of c.args.said ≡ holds c.in-Holds.holds = ap claim_line_of c.in-Holds.is in
    claims_opened _ (claim_line_of c.args.said) c.in-Holds.holds said refl refl c.empty.ensures
