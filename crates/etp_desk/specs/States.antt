-- What stands between two lines of a session.
use Rattle.std.specs.Prelude.{◌≡◌, ℕ, List, []}
use Rattle.etp_io.specs.Texts.{LineText}
use Rattle.std.specs.declared.option.Option.{Option}
use Rattle.etp_laws.specs.Listing.{IsTheList}
use Rattle.etp_laws.specs.LawLists.{LawList, AreDuals}
use Rattle.etp_ledger.specs.Files.{File}

-- the list of laws with the numbers of their duals, and the files that stand
pub record Opened : Type 0 where
  pub laws : LawList
  pub files : List File

-- the laws are the list of this order, and no file stands
pub record Opens (order : ℕ) (o : Opened) : Type 0 where
  pub order_is : o.laws.order ≡ order
  pub list : IsTheList order o.laws.equations
  pub dual_numbers : AreDuals o.laws.equations o.laws.duals
  pub no_files : o.files ≡ []

-- a file whose body is being read: the number of its line, the one word that is to be its name,
-- and the body lines so far
pub record Filing : Type 0 where
  pub number : ℕ
  pub word : Option (List ℕ)
  pub lines : List LineText

-- Before the first line that isn't blank nothing stands, then the laws and the files, and a body
-- while one is read. The text is over before a `load` whose name isn't there.
pub data State : Type 0 where
  unopened : State
  over : Opened → State
  filing : Opened → Filing → State
  stopped : State
