-- Which lines the values of the program stand for.
use Rattle.std.specs.Prelude.{◌≡◌, ◌∷◌, ℕ, List, Some, codes}
use Rattle.etp_words.specs.Words.{words_of, behind_word}
use Rattle.etp_words.specs.Numbers.{number_said}
use Rattle.etp_term.specs.Terms.{tree_of}
use Rattle.etp_lines.specs.Said.{line_of}
use Rattle.etp_cancel.specs.Cancelling.{Cancel}
use Rattle.etp_finite_lines.specs.CancelLines.{IsParted}
use Rattle.etp_finite_lines.specs.FiniteLines as Lines
use Rattle.etp_finite_lines.specs.FiniteLines.{body, cancel}
use Rattle.etp_finite_lines.specs.declared.cancel.CancelLine.{CancelLine}
use Rattle.etp_finite_lines.specs.declared.cancel.CancelWords.{CancelWords}
use Rattle.etp_finite_lines.specs.declared.line.FiniteLine.{FiniteLine}
use Rattle.etp_finite_lines.specs.declared.line.FiniteLine.TheVariants as Spoken

-- what a line that cancels said
abbrev pub cancel_of : CancelLine → Cancel
cancel_of c = record {
  line = c.line;
  variable = c.variable;
  outer = tree_of c.outer;
  inner = tree_of c.inner;
}

-- what a line said
abbrev pub finite_line_of : FiniteLine → Lines.FiniteLine
finite_line_of (Spoken.Body said) = body (line_of said)
finite_line_of (Spoken.Cancel c) = cancel (cancel_of c)

-- the line has these words, and these texts where its terms stand
pub record HasCancelWords (line : List ℕ) (w : CancelWords) : Type 0 where
  pub reference : List ℕ
  pub more : List (List ℕ)
  pub words : words_of line ≡ codes "cancel" ∷ reference ∷ w.variable.now ∷ more
  pub by : number_said reference ≡ Some w.line
  pub parted : IsParted (behind_word (behind_word (behind_word line))) w.outer.now w.inner.now
