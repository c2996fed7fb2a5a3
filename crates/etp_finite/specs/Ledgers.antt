-- What callers see of a finite ledger, and what it keeps.
use Rattle.std.specs.Prelude.{◌≡◌, ◌<◌, ◌^◌, ℕ, List, length}
use Rattle.etp_theory.specs.Trees.{Equation}
use Rattle.etp_laws.specs.Listing.{IsTheList}
use Rattle.etp_laws.specs.LawLists.{AreDuals}
use Rattle.etp_closure.specs.Closures.{Known, StandsFor, SameAnswers}
use Rattle.etp_finite.specs.Files.{File, facts_of}
use Rattle.etp_finite.specs.Accepting.{AreAccepted}

-- the files that stand, in order, and the closure
pub record Entries : Type 0 where
  pub files : List File
  pub closure : Known

-- over the list of laws of at most four operations the files are accepted one after the other, and
-- the closure names the laws' duals and stands for what the files say
pub record IsLedger (files : List File) (closure : Known) : Type 0 where
  pub few : length files < 2 ^ 32
  pub stands : StandsFor closure (facts_of files)
  pub duals : (laws : List Equation) → IsTheList 4 laws → AreDuals laws closure.duals
  pub accepted : (laws : List Equation) → IsTheList 4 laws → AreAccepted laws files

-- the same files, kept laws and answers
pub record IsUnchanged (old new : Entries) : Type 0 where
  pub same_files : new.files ≡ old.files
  pub same_duals : new.closure.duals ≡ old.closure.duals
  pub same_slots : new.closure.slots ≡ old.closure.slots
  pub same_answers : SameAnswers old.closure new.closure
