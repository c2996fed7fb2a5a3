-- What stands in a session as the program keeps it.
use Rattle.std.specs.Prelude.{◌≡◌, List}
use Rattle.etp_ledger.specs.Files.{File}
use Rattle.etp_ledger.specs.Ledgers.{IsOver}
use Rattle.etp_desk.specs.States as States
use Rattle.etp_desk.specs.declared.opened.Opened.{Opened}

abbrev pub opened_of : Opened → States.Opened
opened_of o = record { laws = o.laws; files = o.ledger.files }

-- the ledger is over the laws
abbrev pub Agrees : Opened → Type 0
Agrees o = IsOver o.laws o.ledger

-- the same laws, with these files
pub record Leaves (old new : Opened) (files : List File) : Type 0 where
  pub agrees : Agrees new
  pub same_laws : new.laws ≡ old.laws
  pub files_are : new.ledger.files ≡ files
