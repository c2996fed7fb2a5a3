use Rattle.std.proofs.Common.{ap, ◌∙◌, subst, rules}
use Rattle.etp_finite.specs.Files.{Stands}
use Rattle.etp_finite.specs.Withdrawing.{IsWithdrawn}
use Rattle.etp_finite.specs.Ledgers.{Entries}
use Rattle.etp_finite.specs.Kept.{files_of}
use Rattle.etp_finite.proofs.Withdrawn.{removed}
use Rattle.etp_finite.proofs.Meaning.{kept_still, one_less}
use Rattle.etp_finite.proofs.ledger.FiniteLedger.withdraw.Goals as goal

pub add_all-requires-clause-kept : goal.add_all-requires-clause-kept
add_all-requires-clause-kept c =
    let i = c.self.inside in
    kept_still (files_of i.files.entries) i.closure c.self.invariant c.args.name.now (files_of c.shift_remove.new.self.entries) c.clear.new.self.slots (ap files_of c.shift_remove.ensures.entries ∙ removed c.args.name.now i.files.entries) c.clear.ensures.slots

pub invariant_of-self : goal.invariant_of-self
invariant_of-self c =
    let i = c.self.inside in
    one_less (files_of i.files.entries) i.closure c.self.invariant c.args.name.now (files_of c.shift_remove.new.self.entries) c.add_all.new.closure (ap files_of c.shift_remove.ensures.entries ∙ removed c.args.name.now i.files.entries) (c.add_all.ensures.duals ∙ c.clear.ensures.duals) c.add_all.ensures.stands

pub returns-clause-ok : goal.returns-clause-ok
returns-clause-ok c =
    let i = c.self.inside in
    let stood : Stands (files_of i.files.entries) c.args.name.now = search rules in
    let here : IsWithdrawn (files_of i.files.entries) c.args.name.now (files_of c.shift_remove.new.self.entries) = record { stood = stood; gone = ap files_of c.shift_remove.ensures.entries ∙ removed c.args.name.now i.files.entries } in
    subst (λ (v : Entries). IsWithdrawn v.files c.args.name.now (files_of c.shift_remove.new.self.entries)) c.self.view_is here
