use Rattle.std.proofs.Common.{◌≡◌, sym, ◌∙◌, true}
use Rattle.etp_lines.specs.Said.{claim_line_of}
use Rattle.etp_items.specs.Work.{is_told_by}
use Rattle.etp_items.proofs.ModelLemmas.{claims_open}
use Rattle.etp_items.proofs.model.ModelWork.open_claims.Goals as goal

pub returns : goal.returns
returns c =
    let told : is_told_by c.args.self.now.magma ≡ true = sym c.is_told.ensures ∙ c.if-not-is_told.false in
    rw c.is_some.ensures (claims_open c.args.self.now (claim_line_of c.args.said) c.open.result c.requires told c.open.ensures)
