-- What the words of the command line ask.
use Rattle.std.specs.Prelude.{◌≡◌, ◌≤◌, ℕ, List, [], ◌∷◌, codes, nat_le, ◌&&◌, if◌then◌else◌, None, Some}
use Rattle.std.specs.declared.option.Option.{Option}
use Rattle.etp_words.specs.Words.{is_word}
use Rattle.etp_words.specs.Numbers.{number_said}
use Rattle.etp_arguments.specs.declared.task.Task.{Task}
use Rattle.etp_arguments.specs.declared.task.Task.TheVariants.{Session, Laws, Generate, Demo, Shortest, Complete, Unknown}
use Rattle.etp_command.specs.declared.request.ListOrder.TheVariants.{Four, Five}

-- a number from the first to the second
abbrev pub between : ℕ → ℕ → Option ℕ → Option ℕ
between low high None = None
between low high (Some n) = if nat_le low n && nat_le n high then Some n else None

-- how many files, and a seed
abbrev pub generate_task : Option ℕ → Option ℕ → Task
generate_task (Some count) (Some seed) = Generate count seed
generate_task _ _ = Unknown

abbrev pub demo_task : Option ℕ → Option ℕ → Task
demo_task (Some count) (Some seed) = Demo count seed
demo_task _ _ = Unknown

-- the laws of a search, the most leaves of a term, and the most steps
abbrev pub shortest_task : Option ℕ → Option ℕ → Option ℕ → Option ℕ → Task
shortest_task (Some e) (Some f) (Some leaves) (Some steps) = Shortest e f leaves steps
shortest_task _ _ _ _ = Unknown

-- the law that is completed, the one that is to fail, and the weight
abbrev pub complete_task : Option ℕ → Option ℕ → Option ℕ → Option ℕ → Option ℕ → Task
complete_task (Some law) (Some target) (Some a) (Some b) (Some c) = Complete law target a b c
complete_task _ _ _ _ _ = Unknown

-- a session is asked for by its word, or by no word; the list of laws by `laws`, or `laws 5`; generated
-- files by `generate` and two numbers; the summary of a ledger that took them by `demo` and the same; a
-- shortest proof by `shortest` and four; a completion by `complete` and five
abbrev pub task_of : List (List ℕ) → Task
task_of [] = Session
task_of (word ∷ []) =
    if is_word word (codes "session") then Session else (if is_word word (codes "laws") then Laws Four else Unknown)
task_of (word ∷ other ∷ []) = if is_word word (codes "laws") && is_word other (codes "5") then Laws Five else Unknown
task_of (word ∷ count ∷ seed ∷ []) =
    if is_word word (codes "generate") then generate_task (between 1 10000 (number_said count)) (number_said seed)
    else (if is_word word (codes "demo") then demo_task (between 1 10000 (number_said count)) (number_said seed)
    else Unknown)
task_of (word ∷ e ∷ f ∷ leaves ∷ steps ∷ []) =
    if is_word word (codes "shortest")
    then shortest_task (between 1 4694 (number_said e)) (between 1 4694 (number_said f))
    (between 1 6 (number_said leaves)) (between 0 12 (number_said steps)) else Unknown
task_of (word ∷ law ∷ target ∷ a ∷ b ∷ c ∷ []) =
    if is_word word (codes "complete")
    then complete_task (between 2 4694 (number_said law)) (between 1 4694 (number_said target))
    (number_said a) (number_said b) (number_said c) else Unknown
task_of _ = Unknown

abbrev pub IsTask : List (List ℕ) → Task → Type 0
IsTask words task = task_of words ≡ task

-- its numbers are in their ranges
abbrev pub IsInRange : Task → Type 0
IsInRange (Generate count seed) = (1 ≤ count) × (count ≤ 10000)
IsInRange (Demo count seed) = (1 ≤ count) × (count ≤ 10000)
IsInRange (Shortest e f leaves steps) =
    ((1 ≤ e) × (e ≤ 4694)) × ((1 ≤ f) × (f ≤ 4694)) × ((1 ≤ leaves) × (leaves ≤ 6)) × (steps ≤ 12)
IsInRange (Complete law target a b c) = ((2 ≤ law) × (law ≤ 4694)) × ((1 ≤ target) × (target ≤ 4694))
IsInRange _ = Unit {0}
