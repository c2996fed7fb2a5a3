use Rattle.std.proofs.Common.{rules, ◌≡◌, Some, slice_get, subst}
use Rattle.etp_items.specs.Bodies.{body_of}
use Rattle.etp_ledger.specs.Accepting.{IsValidFor}
use Rattle.etp_ledger.specs.Kept.{file_of, files_of}
use Rattle.etp_ledger.specs.Ledgers.{Entries}
use Rattle.etp_ledger.proofs.Lists.{map_get}
use Rattle.etp_ledger.proofs.StillValid.{valid_at}
use Rattle.etp_ledger.proofs.ledger.Ledger.file.Goals as goal

pub returns-in-Some-clause-valid : goal.returns-in-Some-clause-valid
returns-in-Some-clause-valid c =
    let i = c.self.inside in
    let entry : slice_get i.files.entries c.args.at ≡ Some (c.in-Some.name.now, c.in-Some.kept.now) = search rules in
    let there = map_get file_of i.files.entries c.args.at (c.in-Some.name.now, c.in-Some.kept.now) entry in
    let here : IsValidFor i.order (files_of i.files.entries) (body_of c.in-Some.kept.now.body) = λ laws list. valid_at laws (files_of i.files.entries) (c.self.invariant.accepted laws list) c.args.at (file_of (c.in-Some.name.now, c.in-Some.kept.now)) there in
    subst (λ (v : Entries). IsValidFor v.order v.files (body_of c.in-Some.kept.now.body)) c.self.view_is here
