-- What callers see of a ledger, and what it keeps.
use Rattle.std.specs.Prelude.{◌≡◌, ◌<◌, ◌⊎◌, ◌^◌, ℕ, List, length}
use Rattle.etp_theory.specs.Trees.{Equation}
use Rattle.etp_laws.specs.Listing.{IsTheList}
use Rattle.etp_laws.specs.LawLists.{LawList, AreDuals}
use Rattle.etp_closure.specs.Closures.{Known, StandsFor, SameAnswers}
use Rattle.etp_ledger.specs.Files.{File, facts_of}
use Rattle.etp_ledger.specs.Accepting.{AreAccepted}

-- the greatest number of operations of a law, the files that stand, in order, and the closure
pub record Entries : Type 0 where
  pub order : ℕ
  pub files : List File
  pub closure : Known

-- over the list of laws the files are accepted one after the other, and the closure names the
-- laws' duals and stands for what the files say
pub record IsLedger (order : ℕ) (files : List File) (closure : Known) : Type 0 where
  pub order_known : (order ≡ 4) ⊎ (order ≡ 5)
  pub few : length files < 2 ^ 32
  pub stands : StandsFor closure (facts_of files)
  pub duals : (laws : List Equation) → IsTheList order laws → AreDuals laws closure.duals
  pub accepted : (laws : List Equation) → IsTheList order laws → AreAccepted laws files

-- a ledger over these laws: they are their order's list, and the closure names their duals
pub record IsOver (laws : LawList) (ledger : Entries) : Type 0 where
  pub list : IsTheList laws.order laws.equations
  pub same_order : ledger.order ≡ laws.order
  pub same_duals : ledger.closure.duals ≡ laws.duals
  pub same_size : length ledger.closure.duals ≡ length laws.equations

-- the same files, kept laws and answers
pub record IsUnchanged (old new : Entries) : Type 0 where
  pub same_order : new.order ≡ old.order
  pub same_files : new.files ≡ old.files
  pub same_duals : new.closure.duals ≡ old.closure.duals
  pub same_slots : new.closure.slots ≡ old.closure.slots
  pub same_answers : SameAnswers old.closure new.closure
