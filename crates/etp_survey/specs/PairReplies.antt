-- The replies about pairs of laws.
use Rattle.std.specs.Prelude.{◌≡◌, ℕ, ◌+◌, List, [], ◌∷◌, ◌++◌, codes, decimal, flat_map, length}
use Rattle.etp_theory.specs.LawNumbers.{IsLaw}
use Rattle.etp_laws.specs.LawLists.{LawList}
use Rattle.etp_closure.specs.Answers.{Says}
use Rattle.etp_closure.specs.declared.facts.Answer.{Answer}
use Rattle.etp_closure.specs.declared.facts.Answer.TheVariants.{Implied, Refuted, Unsettled}
use Rattle.etp_items.specs.Written.{spaced_behind}
use Rattle.etp_ledger.specs.Files.{File, facts_of}
use Rattle.etp_ledger.specs.Asking.{Means}
use Rattle.etp_ledger.specs.Refusals.{IsQuestionRefused}
use Rattle.etp_ledger.specs.declared.refusal.LedgerRefusal.TheVariants.{UnknownLaw}
use Rattle.etp_report.specs.Pairs.{how_many, sum_below, is_same}
use Rattle.etp_report.specs.Reports.{row_with, class_with, classes_with}
use Rattle.etp_report.specs.Blocks.{answer_text, block_text, IsBlock}
use Rattle.etp_print.specs.Texts.{Reply, answered, refused}

-- `E F` and the answer
abbrev pub pair_line : ℕ → ℕ → List ℕ → List ℕ
pair_line e f answer = decimal e ++ codes " " ++ decimal f ++ codes " " ++ answer ++ 10 ∷ []

-- The answer to a pair of laws, by what the files say, and its meaning: an implied pair is derived, a
-- refuted one isn't. A number that is no law's is refused, the first one before the second.
pub data AskReply (laws : LawList) (files : List File) (e f : ℕ) (reply : Reply) : Type 0 where
  unknown : (n : ℕ) → IsQuestionRefused (length laws.equations) e f (UnknownLaw n)
      → reply ≡ refused (codes "unknown law " ++ decimal n) → AskReply laws files e f reply
  known : (answer : Answer) → IsLaw (length laws.equations) e → IsLaw (length laws.equations) f
      → Says laws.duals (facts_of files) e f answer → Means laws.equations e f answer
      → reply ≡ answered (pair_line e f (answer_text answer)) → AskReply laws files e f reply

-- the answers to all pairs, by what the files say
abbrev pub AreAnswers : LawList → List File → (ℕ → ℕ → Answer) → Type 0
AreAnswers laws files answer_to = (e f : ℕ) → Says laws.duals (facts_of files) e f (answer_to e f)

-- how many pairs of the laws 1 to n have the answer
abbrev pub pairs_with : (ℕ → ℕ → Answer) → Answer → ℕ → ℕ
pairs_with answer_to answer n =
    sum_below (λ place. how_many (λ other. is_same (answer_to (place + 1) (other + 1)) answer) n) n

abbrev pub counts_line : ℕ → ℕ → ℕ → List ℕ
counts_line a b c =
    codes "implied " ++ decimal a ++ codes " refuted " ++ decimal b ++ codes " open " ++ decimal c ++ 10 ∷ []

-- how many pairs have each answer
pub record CountsReply (laws : LawList) (files : List File) (reply : Reply) : Type 0 where
  pub answer_to : ℕ → ℕ → Answer
  pub says : AreAnswers laws files answer_to
  pub reply_is : reply ≡ answered (counts_line
      (pairs_with answer_to Implied (length laws.equations))
      (pairs_with answer_to Refuted (length laws.equations))
      (pairs_with answer_to Unsettled (length laws.equations)))

-- a word and the numbers behind it
abbrev pub list_line : List ℕ → List ℕ → List ℕ
list_line word numbers = word ++ spaced_behind numbers ++ 10 ∷ []

-- a law and how many laws have each answer, and two lines with those of the first two
abbrev pub row_text : ℕ → List ℕ → List ℕ → ℕ → List ℕ
row_text e implied refuted unsettled =
    decimal e ++ codes " " ++ counts_line (length implied) (length refuted) unsettled
    ++ list_line (codes "implied") implied ++ list_line (codes "refuted") refuted

-- The answers of law e: how many laws have each as the second of a pair with it, and which are
-- implied and which refuted. A number that is no law's is refused.
pub data RowReply (laws : LawList) (files : List File) (e : ℕ) (reply : Reply) : Type 0 where
  no_row : ¬ IsLaw (length laws.equations) e → reply ≡ refused (codes "unknown law " ++ decimal e)
      → RowReply laws files e reply
  row_shown : (answer_to : ℕ → ℕ → Answer) → AreAnswers laws files answer_to
      → IsLaw (length laws.equations) e
      → reply ≡ answered (row_text e
      (row_with answer_to (length laws.equations) Implied e)
      (row_with answer_to (length laws.equations) Refuted e)
      (length (row_with answer_to (length laws.equations) Unsettled e)))
      → RowReply laws files e reply

-- a law, how many laws are in its class, and which
abbrev pub class_text : ℕ → List ℕ → List ℕ
class_text e class =
    codes "class " ++ decimal e ++ codes " " ++ decimal (length class) ++ codes ":"
    ++ spaced_behind class ++ 10 ∷ []

-- the laws that imply law e and are implied by it
pub data ClassReply (laws : LawList) (files : List File) (e : ℕ) (reply : Reply) : Type 0 where
  no_class : ¬ IsLaw (length laws.equations) e → reply ≡ refused (codes "unknown law " ++ decimal e)
      → ClassReply laws files e reply
  class_shown : (answer_to : ℕ → ℕ → Answer) → AreAnswers laws files answer_to
      → IsLaw (length laws.equations) e
      → reply ≡ answered (class_text e (class_with answer_to (length laws.equations) e))
      → ClassReply laws files e reply

-- a class of more than one law has a line
abbrev pub class_line : List ℕ → List ℕ
class_line [] = []
class_line (law ∷ []) = []
class_line (law ∷ other ∷ others) = decimal law ++ spaced_behind (other ∷ others) ++ 10 ∷ []

abbrev pub classes_text : List (List ℕ) → List ℕ
classes_text classes =
    flat_map class_line classes ++ codes "classes " ++ decimal (length classes) ++ 10 ∷ []

-- the classes of more than one law, by their least laws, and how many classes there are
pub record ClassesReply (laws : LawList) (files : List File) (reply : Reply) : Type 0 where
  pub answer_to : ℕ → ℕ → Answer
  pub says : AreAnswers laws files answer_to
  pub reply_is : reply ≡ answered (classes_text (classes_with answer_to (length laws.equations)))

-- the answers among the laws from the first to the last, which are at most 200
pub data CsvReply (laws : LawList) (files : List File) (first last : ℕ)
    (reply : Reply) : Type 0 where
  no_block : ¬ IsBlock (length laws.equations) first last
      → reply ≡ refused (codes "block " ++ decimal first ++ codes " " ++ decimal last)
      → CsvReply laws files first last reply
  block_shown : (answer_to : ℕ → ℕ → Answer) → AreAnswers laws files answer_to
      → IsBlock (length laws.equations) first last
      → reply ≡ answered (block_text answer_to first last) → CsvReply laws files first last reply
