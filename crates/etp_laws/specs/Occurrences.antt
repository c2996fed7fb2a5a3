-- Words with their variables numbered by first occurrence.
use Rattle.std.specs.Prelude.{◌≡◌, ◌⊎◌, ℕ, ◌+◌, ◌<◌, ◌==◌, List, [], ◌∷◌, ◌++◌, length, cond}
use Rattle.std.specs.List.{position_or_len}

-- the place of v in the variables seen so far, or their number where it is new
abbrev pub place : List ℕ → ℕ → ℕ
place seen v = position_or_len (λ x. x == v) seen

-- the variables seen after v
abbrev pub seen_after : List ℕ → ℕ → List ℕ
seen_after seen v = cond (place seen v == length seen) (seen ++ v ∷ []) seen

-- the word with its variables numbered by first occurrence, after those of `seen`
abbrev pub by_occurrence_after : List ℕ → List ℕ → List ℕ
by_occurrence_after seen [] = []
by_occurrence_after seen (v ∷ w) = place seen v ∷ by_occurrence_after (seen_after seen v) w

abbrev pub by_occurrence : List ℕ → List ℕ
by_occurrence w = by_occurrence_after [] w

-- the variables seen after a word
abbrev pub seen_all : List ℕ → List ℕ → List ℕ
seen_all seen [] = seen
seen_all seen (v ∷ w) = seen_all (seen_after seen v) w

-- each variable is one of those used so far, k before the word, or the next one
abbrev pub Grows : ℕ → List ℕ → Type 0
Grows k [] = Unit {0}
Grows k (v ∷ w) = ((v < k) × Grows k w) ⊎ ((v ≡ k) × Grows (k + 1) w)
