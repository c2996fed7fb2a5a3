-- What the walk over the assignments of a law keeps.
use Rattle.std.specs.Prelude.{◌≡◌, ◌≢◌, ℕ, ◌+◌, ◌<◌, ◌≤◌, List, [], ◌∷◌, ◌++◌, Option, Some, None, take, slice_index}
use Rattle.etp_theory.specs.Trees.{Equation}
use Rattle.etp_theory.specs.Magmas.{meaning}
use Rattle.etp_theory.specs.Tables.{assigned}
use Rattle.etp_term.specs.Laws.{equation_of}
use Rattle.etp_table.specs.Tables.{Table, times}
use Rattle.etp_table.specs.Verdicts.{variables, AgreesAt}
use Rattle.etp_table.specs.Programs.{IsInOrder, HasValue}
use Rattle.etp_table.specs.declared.compiled.CompiledLaw.{CompiledLaw}

-- the law of a compiled one
abbrev pub law_of : CompiledLaw → Equation
law_of c = equation_of c.law.now

-- the registers `left` and `right` get the values of the law's sides
pub record IsCompiled (c : CompiledLaw) : Type 0 where
  pub variables_are : variables (law_of c) ≡ c.program.last + 1
  pub few : c.program.last ≤ 6
  pub order : IsInOrder c.program.kept c.program.looped
  pub left : HasValue c.program.last c.program.kept c.program.looped c.left (law_of c).left
  pub right : HasValue c.program.last c.program.kept c.program.looped c.right (law_of c).right

-- each register has a value of the table
abbrev pub AreValues : Table → List ℕ → Type 0
AreValues t registers = (r : ℕ) → r < 18 → slice_index registers r < t.size

-- the registers below n stay
abbrev pub SameBelow : ℕ → List ℕ → List ℕ → Type 0
SameBelow n old new = (r : ℕ) → r < n → slice_index new r ≡ slice_index old r

-- the assignment of the registers with this value of the last variable
abbrev pub assignment_at : ℕ → List ℕ → ℕ → List ℕ
assignment_at last registers value = take last registers ++ value ∷ []

-- the sides differ at this value of the last variable and at none before it, and have these values
pub record IsFirstInRow (t : Table) (c : CompiledLaw) (old new : List ℕ) (count value : ℕ) : Type 0 where
  pub within : value < count
  pub before : (j : ℕ) → j < value → AgreesAt t (law_of c) (assignment_at c.program.last old j)
  pub left_is : slice_index new c.left
      ≡ meaning (times t) (assigned (assignment_at c.program.last old value)) (law_of c).left
  pub right_is : slice_index new c.right
      ≡ meaning (times t) (assigned (assignment_at c.program.last old value)) (law_of c).right
  pub differ : slice_index new c.left ≢ slice_index new c.right

-- the first of the `count` least values of the last variable at which the sides differ
abbrev pub IsRowAnswer : Table → CompiledLaw → List ℕ → List ℕ → ℕ → Option ℕ → Type 0
IsRowAnswer t c old new count None =
    (j : ℕ) → j < count → AgreesAt t (law_of c) (assignment_at c.program.last old j)
IsRowAnswer t c old new count (Some value) = IsFirstInRow t c old new count value
