use Rattle.std.proofs.Common.{ap, sym, ◌∙◌, position}
use Rattle.etp_ledger.specs.Files.{is_named}
use Rattle.etp_ledger.specs.Ledgers.{Entries}
use Rattle.etp_ledger.proofs.Naming.{place_same}
use Rattle.etp_ledger.proofs.ledger.Ledger.place.Goals as goal

pub returns-in-None : goal.returns-in-None
returns-in-None c =
    sym c.in-None.is ∙ c.get_index_of.ensures.index ∙ place_same c.args.name.now c.self.inside.files.entries ∙ ap (λ (v : Entries). position (is_named c.args.name.now) v.files) c.self.view_is

pub returns-in-Some : goal.returns-in-Some
returns-in-Some c =
    sym c.in-Some.is ∙ c.get_index_of.ensures.index ∙ place_same c.args.name.now c.self.inside.files.entries ∙ ap (λ (v : Entries). position (is_named c.args.name.now) v.files) c.self.view_is
