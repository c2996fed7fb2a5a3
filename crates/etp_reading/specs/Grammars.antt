-- What the lines of a body may say, and in which order.
use Rattle.std.specs.Prelude.{◌≡◌, ℕ, Bool, List, Option}
use Rattle.etp_words.specs.Words.{IsBlankLine}

-- lines, and how far a body has come behind each of them
pub record Grammar : Type 1 where
  -- what a line may say
  pub Line : Type 0
  -- how far a body has come
  pub Place : Type 0
  -- no line has been read but blank ones
  pub opening : Place
  -- the line says this
  pub Says : List ℕ → Line → Type 0
  -- how far the body has come with one more line, where this line may stand there
  pub after : Place → Line → Option Place
  -- the body may end at this place
  pub is_complete : Place → Bool
  -- the law numbers of a line, from left to right
  pub numbers_of : Line → List ℕ

-- a line says one thing, and a blank line nothing
pub record OneLine (g : Grammar) : Type 0 where
  pub one_line : (line : List ℕ) (l m : g.Line) → g.Says line l → g.Says line m → l ≡ m
  pub blank_line : (line : List ℕ) (l : g.Line) → IsBlankLine line → g.Says line l → ⊥
