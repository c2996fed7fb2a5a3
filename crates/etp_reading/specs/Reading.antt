-- The lines of a body, read one after another, and why they are no body.
use Rattle.std.specs.Prelude.{◌≡◌, ◌+◌, ◌≤◌, ◌<◌, ◌⊎◌, ℕ, Bool, true, false, ◌&&◌, List, [], ◌∷◌, ◌++◌, length, take, All, Option, Some, None}
use Rattle.std.specs.Borrow.{Bor}
use Rattle.etp_theory.specs.LawNumbers.{IsLaw}
use Rattle.etp_io.specs.Texts.{LineText, whole, too_long}
use Rattle.etp_words.specs.Words.{IsBlankLine}
use Rattle.etp_reading.specs.Grammars.{Grammar}
use Rattle.etp_reading.specs.declared.refusal.BodyRefusal.{BodyRefusal}
use Rattle.etp_reading.specs.declared.refusal.BodyRefusal.TheVariants.{BadLine, UnknownLaw, TooManyLines, Unfinished}

-- a line that is given: None is a long one
abbrev pub given_text : Option (Bor (List ℕ)) → LineText
given_text None = too_long
given_text (Some line) = whole line.now

-- the most lines of a body
abbrev pub line_limit : ℕ
line_limit = 200000

module _ (g : Grammar) where
  -- the lines lead from one place to another and say this, blank lines nothing
  abbrev pub Reads : g.Place → List LineText → List g.Line → g.Place → Type 0
  Reads first [] saids last = (saids ≡ []) × (last ≡ first)
  Reads first (too_long ∷ lines) saids last = ⊥
  Reads first (whole line ∷ lines) saids last =
      (IsBlankLine line × Reads first lines saids last)
      ⊎ ((said : g.Line) × (next : g.Place) × (more : List g.Line) × g.Says line said
      × (g.after first said ≡ Some next) × Reads next lines more last × (saids ≡ said ∷ more))

  -- the lines are read from the opening to a place at which the body may end
  pub record AreWhole (lines : List LineText) (saids : List g.Line) : Type 0 where
    pub come : g.Place
    pub reads : Reads g.opening lines saids come
    pub complete : g.is_complete come ≡ true

  -- all law numbers of the lines are from 1 to the count
  abbrev pub AreListed : ℕ → List g.Line → Type 0
  AreListed count = All (λ said. All (IsLaw count) (g.numbers_of said))

  -- the first law number that isn't listed stands in this line, behind the numbers `known` of it
  pub record IsFirstUnlisted (count : ℕ) (lines : List LineText) (place number : ℕ) : Type 0 where
    pub before : List LineText
    pub line : List ℕ
    pub behind : List LineText
    pub whole : lines ≡ before ++ whole line ∷ behind
    pub there : place ≡ length before + 1
    pub saids : List g.Line
    pub come : g.Place
    pub reads : Reads g.opening before saids come
    pub listed : AreListed count saids
    pub said : g.Line
    pub says : g.Says line said
    pub known : List ℕ
    pub more : List ℕ
    pub numbers : g.numbers_of said ≡ known ++ number ∷ more
    pub known_listed : All (IsLaw count) known
    pub unlisted : IsLaw count number → ⊥

  -- the line is too long, or it isn't blank and says nothing that may stand at this place
  abbrev pub HasNoPlace : g.Place → LineText → Type 0
  HasNoPlace place too_long = Unit {0}
  HasNoPlace place (whole line) =
      (IsBlankLine line → ⊥) × ((said : g.Line) → g.Says line said → g.after place said ≡ None)

  -- the lines before this one are read, and this one has no place behind them
  pub record IsBadLine (lines : List LineText) (number : ℕ) : Type 0 where
    pub before : List LineText
    pub line : LineText
    pub behind : List LineText
    pub whole : lines ≡ before ++ line ∷ behind
    pub place : number ≡ length before + 1
    pub few : number ≤ line_limit
    pub saids : List g.Line
    pub come : g.Place
    pub reads : Reads g.opening before saids come
    pub bad : HasNoPlace come line

  -- more lines than a body may have, and no bad line among those
  pub record IsTooMany (lines : List LineText) (number : ℕ) : Type 0 where
    pub next : number ≡ line_limit + 1
    pub many : line_limit < length lines
    pub saids : List g.Line
    pub come : g.Place
    pub reads : Reads g.opening (take line_limit lines) saids come

  -- the lines are read to their end, where the body isn't complete or isn't closed
  pub record IsUnfinished (lines : List LineText) (closed : Bool) (number : ℕ) : Type 0 where
    pub few : length lines ≤ line_limit
    pub next : number ≡ length lines + 1
    pub saids : List g.Line
    pub come : g.Place
    pub reads : Reads g.opening lines saids come
    pub open_end : (closed && g.is_complete come) ≡ false

  -- the lines are whole, and this is their first law number that isn't listed, by line and then from
  -- left to right
  pub record IsUnknownLaw (count : ℕ) (lines : List LineText) (closed : Bool) (place number : ℕ) : Type 0 where
    pub is_closed : closed ≡ true
    pub few : length lines ≤ line_limit
    pub saids : List g.Line
    pub are_whole : AreWhole lines saids
    pub first : IsFirstUnlisted count lines place number

  -- the refusal is the one of these lines
  abbrev pub Refuses : ℕ → List LineText → Bool → BodyRefusal → Type 0
  Refuses count lines closed (BadLine line) = IsBadLine lines line
  Refuses count lines closed (UnknownLaw line number) = IsUnknownLaw count lines closed line number
  Refuses count lines closed (TooManyLines line) = IsTooMany lines line
  Refuses count lines closed (Unfinished line) = IsUnfinished lines closed line

  -- the lines say this, are few, whole and closed, and all their law numbers are listed
  pub record AreRead (count : ℕ) (lines : List LineText) (closed : Bool) (saids : List g.Line) : Type 0 where
    pub is_closed : closed ≡ true
    pub few : length lines ≤ line_limit
    pub are_whole : AreWhole lines saids
    pub listed : AreListed count saids
