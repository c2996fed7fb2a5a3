-- The summary of a ledger that took generated files and withdrew the first.
use Rattle.std.specs.Prelude.{◌≡◌, ℕ, suc, List, [], ◌∷◌, ◌++◌, codes, decimal, length}
use Rattle.etp_theory.specs.Trees.{Equation}
use Rattle.etp_laws.specs.Listing.{IsTheList}
use Rattle.etp_laws.specs.LawLists.{LawList, AreDuals}
use Rattle.etp_closure.specs.declared.facts.Answer.{Answer}
use Rattle.etp_items.specs.Bodies.{ProofBody, proof}
use Rattle.etp_gen.specs.Draws.{start}
use Rattle.etp_gen.specs.Scripts.{AreGenerated, file_name}
use Rattle.etp_ledger.specs.Files.{File}
use Rattle.etp_ledger.specs.Accepting.{AreAccepted}
use Rattle.etp_ledger.specs.Withdrawing.{IsWithdrawn}
use Rattle.etp_report.specs.Reports.{classes_with}
use Rattle.etp_print.specs.Texts.{answered}
use Rattle.etp_survey.specs.PairReplies.{AreAnswers, CountsReply}

-- the files of these proofs, named `gk` and so on
abbrev pub files_from : ℕ → List ProofBody → List File
files_from k [] = []
files_from k (p ∷ proofs) = record { name = file_name k; body = proof p } ∷ files_from (suc k) proofs

-- as many files as a seed gives first, named from `g1` on
pub record AreFilesOf (laws : List Equation) (count seed : ℕ) (files : List File) : Type 0 where
  pub proofs : List ProofBody
  pub after : ℕ
  pub many : length proofs ≡ count
  pub are_generated : AreGenerated laws (start seed) proofs after
  pub files_are : files ≡ files_from 1 proofs

-- so many classes of laws that imply one another, by what the files say
pub record HasClasses (laws : LawList) (files : List File) (number : ℕ) : Type 0 where
  pub answer_to : ℕ → ℕ → Answer
  pub says : AreAnswers laws files answer_to
  pub number_is : number ≡ length (classes_with answer_to (length laws.equations))

-- the line that answers `counts` was appended
pub record AppendsCounts (laws : LawList) (files : List File) (old new : List ℕ) : Type 0 where
  pub line : List ℕ
  pub counts : CountsReply laws files (answered line)
  pub appended : new ≡ old ++ line

-- a word and a number, or a name
abbrev pub number_line : List ℕ → ℕ → List ℕ
number_line word number = word ++ decimal number ++ 10 ∷ []

abbrev pub name_line : List ℕ → List ℕ → List ℕ
name_line word name = word ++ name ++ 10 ∷ []

-- the five lines
abbrev pub summary_text : ℕ → List ℕ → List ℕ → ℕ → List ℕ
summary_text count counts counts_after classes =
    number_line (codes "files ") count ++ counts ++ name_line (codes "withdrawn ") (file_name 1)
    ++ counts_after ++ number_line (codes "classes ") classes

-- Over the laws of order 4 a ledger takes as many files of the seed, and withdraws the first; its text
-- has how many files there were, the line of `counts` before and after the withdrawal, and how many
-- classes there are then.
pub record IsDemoOf (count seed : ℕ) (text : List ℕ) : Type 0 where
  pub laws : LawList
  pub order_is : laws.order ≡ 4
  pub the_list : IsTheList 4 laws.equations
  pub the_duals : AreDuals laws.equations laws.duals
  pub files : List File
  pub are_files : AreFilesOf laws.equations count seed files
  pub accepted : AreAccepted laws.equations files
  pub rest : List File
  pub withdrawn : IsWithdrawn files (file_name 1) rest
  pub counts : List ℕ
  pub counted : CountsReply laws files (answered counts)
  pub counts_after : List ℕ
  pub counted_after : CountsReply laws rest (answered counts_after)
  pub classes : ℕ
  pub classed : HasClasses laws rest classes
  pub text_is : text ≡ summary_text count counts counts_after classes
