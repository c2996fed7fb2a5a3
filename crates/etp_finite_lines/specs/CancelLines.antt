-- What a line that cancels says.
use Rattle.std.specs.Prelude.{◌≡◌, ◌≤◌, ◌<◌, ℕ, List, ◌∷◌, ◌++◌, codes, length, Some}
use Rattle.etp_words.specs.Words.{words_of, behind_word}
use Rattle.etp_words.specs.Numbers.{number_said}
use Rattle.etp_text.specs.Written.{variable_name}
use Rattle.etp_lines.specs.Sides.{SpellsSide}
use Rattle.etp_cancel.specs.Cancelling.{Cancel}

-- the word is the name of this one of the 64 variables
pub record NamesVariable (word : List ℕ) (v : ℕ) : Type 0 where
  pub small : v < 64
  pub named : word ≡ variable_name v

-- the first `;` of the text stands between these two
pub record IsParted (text left right : List ℕ) : Type 0 where
  pub whole : text ≡ left ++ (codes ";" ++ right)
  pub first : (before behind : List ℕ) → text ≡ before ++ (codes ";" ++ behind)
      → length left ≤ length before

-- `cancel`, a number of a line, a variable, and behind them two terms with the first `;` between them
pub record SaysCancel (line : List ℕ) (c : Cancel) : Type 0 where
  pub reference : List ℕ
  pub name : List ℕ
  pub more : List (List ℕ)
  pub outer : List ℕ
  pub inner : List ℕ
  pub words : words_of line ≡ codes "cancel" ∷ reference ∷ name ∷ more
  pub by : number_said reference ≡ Some c.line
  pub variable : NamesVariable name c.variable
  pub parted : IsParted (behind_word (behind_word (behind_word line))) outer inner
  pub outer_spelled : SpellsSide outer c.outer
  pub inner_spelled : SpellsSide inner c.inner
