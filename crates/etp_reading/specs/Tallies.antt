-- What is kept of the lines that were read.
use Rattle.std.specs.Prelude.{◌≡◌, ◌+◌, ◌≤◌, ◌<◌, ℕ, Bool, true, false, ◌&&◌, min, List, length, take, Option, None, Some, All, ◌++◌, ◌∷◌}
use Rattle.etp_theory.specs.LawNumbers.{IsLaw}
use Rattle.etp_io.specs.Texts.{LineText}
use Rattle.etp_reading.specs.Grammars.{Grammar}
use Rattle.etp_reading.specs.Reading.{Reads, AreListed, IsFirstUnlisted, IsBadLine, line_limit}
use Rattle.etp_reading.specs.declared.tally.Unlisted.{Unlisted}
use Rattle.etp_reading.specs.declared.tally.Tally.{Tally}
use Rattle.etp_reading.specs.declared.refusal.BodyRefusal.{BodyRefusal}
use Rattle.etp_reading.specs.declared.refusal.BodyRefusal.TheVariants.{BadLine, UnknownLaw, TooManyLines, Unfinished}

-- the first of the numbers that isn't listed
pub record IsFirstOf (count : ℕ) (numbers : List ℕ) (number : ℕ) : Type 0 where
  pub known : List ℕ
  pub more : List ℕ
  pub whole : numbers ≡ known ++ number ∷ more
  pub listed : All (IsLaw count) known
  pub unlisted : IsLaw count number → ⊥

-- all numbers are those of listed laws, or this is the first that isn't
abbrev pub HasFirst : ℕ → List ℕ → Option ℕ → Type 0
HasFirst count numbers None = All (IsLaw count) numbers
HasFirst count numbers (Some number) = IsFirstOf count numbers number

-- the number found first: one that is known, else that of one more line
abbrev pub unlisted_then : Option Unlisted → Option ℕ → ℕ → Option Unlisted
unlisted_then (Some u) o k = Some u
unlisted_then None None k = None
unlisted_then None (Some n) k = Some (record { line = k; number = n })

-- one line more is counted; past the limit the count stands still
abbrev pub lines_then : ℕ → ℕ
lines_then lines = min lines line_limit + 1

-- no line is bad, and there are no more than a body may have
abbrev pub IsGood : Tally → Type 0
IsGood tally = (tally.bad ≡ None) × (tally.lines ≤ line_limit)

-- the refusal, if any, of lines that were closed or not, and are complete or not
abbrev pub Judges : Tally → Bool → Bool → Option BodyRefusal → Type 0
Judges tally closed complete (Some (BadLine line)) = tally.bad ≡ Some line
Judges tally closed complete (Some (TooManyLines line)) =
    (tally.bad ≡ None) × (line_limit < tally.lines) × (line ≡ tally.lines)
Judges tally closed complete (Some (Unfinished line)) =
    IsGood tally × ((closed && complete) ≡ false) × (line ≡ tally.lines + 1)
Judges tally closed complete (Some (UnknownLaw line number)) =
    IsGood tally × ((closed && complete) ≡ true)
    × (tally.unlisted ≡ Some (record { line = line; number = number }))
Judges tally closed complete None =
    IsGood tally × ((closed && complete) ≡ true) × (tally.unlisted ≡ None)

module _ (g : Grammar) where
  -- the first law number that isn't listed, where there is one
  abbrev pub KnowsListed : ℕ → List LineText → List g.Line → Option Unlisted → Type 0
  KnowsListed count lines saids None = AreListed g count saids
  KnowsListed count lines saids (Some u) = IsFirstUnlisted g count lines u.line u.number

  -- the lines that may stand in a body have all been read, and say this
  pub record HasGoodLines (tally : Tally) (saids : List g.Line) (come : g.Place) (lines : List LineText) : Type 0 where
    pub reads : Reads g g.opening (take line_limit lines) saids come
    pub listed : KnowsListed tally.count (take line_limit lines) saids tally.unlisted

  -- what stands of the first bad line
  abbrev pub HasFound : Tally → List g.Line → g.Place → List LineText → Option ℕ → Type 0
  HasFound tally saids come lines None = HasGoodLines tally saids come lines
  HasFound tally saids come lines (Some line) = IsBadLine g lines line

  -- these lines have been counted, and say this where none is bad
  pub record HasTallied (tally : Tally) (saids : List g.Line) (come : g.Place) (lines : List LineText) : Type 0 where
    pub counted : tally.lines ≡ min (length lines) (line_limit + 1)
    pub found : HasFound tally saids come lines tally.bad
