-- The reply that says why a pair of laws is implied or refuted.
use Rattle.std.specs.Prelude.{◌≡◌, ℕ, List, [], ◌∷◌, ◌++◌, codes, decimal, length, slice_get, None, Some}
use Rattle.std.specs.declared.option.Option.{Option}
use Rattle.etp_theory.specs.LawNumbers.{IsLaw}
use Rattle.etp_laws.specs.LawLists.{LawList}
use Rattle.etp_closure.specs.Tables.{image_of}
use Rattle.etp_closure.specs.Answers.{Says}
use Rattle.etp_closure.specs.declared.facts.Answer.{Answer}
use Rattle.etp_closure.specs.declared.facts.Answer.TheVariants.{Implied, Refuted, Unsettled}
use Rattle.etp_chain.specs.Evidence.{IsPath, IsCover}
use Rattle.etp_chain.specs.declared.evidence.Edge.{Edge}
use Rattle.etp_chain.specs.declared.evidence.Cover.{Cover}
use Rattle.etp_ledger.specs.Files.{File, facts_of}
use Rattle.etp_ledger.specs.Asking.{Means}
use Rattle.etp_ledger.specs.Refusals.{IsQuestionRefused}
use Rattle.etp_ledger.specs.declared.refusal.LedgerRefusal.TheVariants.{UnknownLaw}
use Rattle.etp_print.specs.Texts.{Reply, answered, refused}
use Rattle.etp_print.specs.EvidenceTexts.{edge_line, cover_line}
use Rattle.etp_report.specs.Blocks.{answer_text}
use Rattle.etp_survey.specs.PairReplies.{pair_line}
use Rattle.etp_evidence.specs.Failing.{IsBodyFailure}

-- the name of a file, where there is one
abbrev pub name_of : Option File → List ℕ
name_of None = []
name_of (Some file) = file.name

-- the name of the file at a place, counted from 0
abbrev pub name_at : List File → ℕ → List ℕ
name_at files at = name_of (slice_get files at)

-- a line for each edge of a path
abbrev pub edge_lines : List File → List Edge → List ℕ
edge_lines files [] = []
edge_lines files (edge ∷ path) = edge_line edge (name_at files edge.file) ++ 10 ∷ edge_lines files path

-- The lines behind the answer to a refuted pair: the refuting pair, where its law that fails does so,
-- the path to the pair's first law, and the path from its second. The law is the one that the file
-- names, which is the dual of the one that fails where the file's dual is used.
abbrev pub cover_text : List File → Cover → List ℕ → List ℕ
cover_text files cover failure =
    cover_line cover (name_at files cover.file) ++ 10 ∷ (failure ++ 10 ∷ (edge_lines files cover.before ++ edge_lines files cover.after))

-- the line says where the law that the cover's file names fails in its magma
pub record IsCoverFailure (laws : LawList) (files : List File) (cover : Cover) (failure : List ℕ) : Type 0 where
  pub file : File
  pub stands : slice_get files cover.file ≡ Some file
  pub fails : IsBodyFailure laws.equations file.body (image_of laws.duals cover.dual cover.fails) failure

-- the lines are those behind the answer to a pair with this cover
abbrev pub IsCoverText : LawList → List File → Cover → List ℕ → Type 0
IsCoverText laws files cover lines =
    (failure : List ℕ) × IsCoverFailure laws files cover failure × (lines ≡ cover_text files cover failure)

-- the lines are those behind the answer
pub data IsShown (laws : LawList) (files : List File) (e f : ℕ) : Answer → List ℕ → Type 0 where
  by_path : {lines : List ℕ} (path : List Edge) → IsPath laws.duals (facts_of files) f e path
      → lines ≡ edge_lines files path → IsShown laws files e f Implied lines
  by_cover : {lines : List ℕ} (cover : Cover) → IsCover laws.duals (facts_of files) e f cover
      → IsCoverText laws files cover lines → IsShown laws files e f Refuted lines
  by_none : {lines : List ℕ} → lines ≡ [] → IsShown laws files e f Unsettled lines

-- The reply to `why` and two numbers: the answer, by what the files say, with its meaning, and behind it
-- what shows it. A number that is no law's is refused, the first one before the second.
pub data WhyReply (laws : LawList) (files : List File) (e f : ℕ) (reply : Reply) : Type 0 where
  unknown : (n : ℕ) → IsQuestionRefused (length laws.equations) e f (UnknownLaw n)
      → reply ≡ refused (codes "unknown law " ++ decimal n) → WhyReply laws files e f reply
  known : (answer : Answer) (shown : List ℕ)
      → IsLaw (length laws.equations) e → IsLaw (length laws.equations) f
      → Says laws.duals (facts_of files) e f answer → Means laws.equations e f answer
      → IsShown laws files e f answer shown
      → reply ≡ answered (pair_line e f (answer_text answer) ++ shown) → WhyReply laws files e f reply
