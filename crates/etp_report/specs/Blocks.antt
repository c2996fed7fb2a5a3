-- The block of the answers among some laws, as comma-separated values.
use Rattle.std.specs.Prelude.{◌≡◌, ℕ, ◌+◌, ◌-◌, ◌<◌, ◌≤◌, List, [], ◌∷◌, ◌++◌, codes, decimal, map, flat_map}
use Rattle.std.specs.List.{range_with_len, join_by}
use Rattle.etp_closure.specs.declared.facts.Answer.{Answer}
use Rattle.etp_closure.specs.declared.facts.Answer.TheVariants.{Implied, Refuted, Unsettled}
use Rattle.etp_report.specs.declared.refusal.ReportRefusal.{ReportRefusal}
use Rattle.etp_report.specs.declared.refusal.ReportRefusal.TheVariants.{Block, NoMemory}

-- the word of an answer
abbrev pub answer_text : Answer → List ℕ
answer_text Implied = codes "implied"
answer_text Refuted = codes "refuted"
answer_text Unsettled = codes "open"

-- the fields of a record with commas between them, and a newline
abbrev pub record_line : List (List ℕ) → List ℕ
record_line fields = join_by (λ field. field) (codes ",") fields ++ 10 ∷ []

-- so many laws from the first on
abbrev pub head_line : ℕ → ℕ → List ℕ
head_line first count = record_line (codes "law" ∷ map decimal (range_with_len first count))

-- a law, and its answers to so many laws from the first on
abbrev pub answers_line : (ℕ → ℕ → Answer) → ℕ → ℕ → ℕ → List ℕ
answers_line answer_to first count e =
    record_line (decimal e ∷ map (λ f. answer_text (answer_to e f)) (range_with_len first count))

-- the numbers of so many laws, and for each of them its answers to all of them
abbrev pub lines_of : (ℕ → ℕ → Answer) → ℕ → ℕ → List ℕ
lines_of answer_to first count =
    head_line first count
    ++ flat_map (answers_line answer_to first count) (range_with_len first count)

-- the block of the laws from the first to the last
abbrev pub block_text : (ℕ → ℕ → Answer) → ℕ → ℕ → List ℕ
block_text answer_to first last = lines_of answer_to first (last - first + 1)

-- the first and the last of at most 200 of the laws 1 to n
pub record IsBlock (n first last : ℕ) : Type 0 where
  pub from_one : 1 ≤ first
  pub in_order : first ≤ last
  pub to_last : last ≤ n
  pub few : last < first + 200

-- the laws aren't those of a block, or want of memory
abbrev pub IsBlockRefused : ℕ → ℕ → ℕ → ReportRefusal → Type 0
IsBlockRefused n first last (Block a b) = (a ≡ first) × (b ≡ last) × ¬ IsBlock n first last
IsBlockRefused n first last NoMemory = Unit {0}
