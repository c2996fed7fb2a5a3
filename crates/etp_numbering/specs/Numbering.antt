-- Variables numbered anew, in the order in which they first come through two terms.
use Rattle.std.specs.Prelude.{◌≡◌, ℕ, ◌<◌, ◌≤◌, ◌==◌, List, [], ◌++◌, true, eqb}
use Rattle.std.specs.List.{position, list_any, IsDistinct}
use Rattle.std.specs.Option.{unwrap_or}
use Rattle.etp_theory.specs.Trees.{Tree, word_of, renamed, bound}
use Rattle.etp_term.specs.Terms.{tree_of}
use Rattle.etp_laws.specs.Occurrences.{seen_all}
use Rattle.etp_numbering.specs.declared.numbering.Numbered.{Numbered}

-- the variables of the first term and then those of the second, each once, as they first come
abbrev pub variables_of : Tree → Tree → List ℕ
variables_of s t = seen_all [] (word_of s ++ word_of t)

-- the place of a variable in a list that has it
abbrev pub place_in : List ℕ → ℕ → ℕ
place_in variables v = unwrap_or (position (λ x. x == v) variables) 0

-- the term with each variable replaced by its place in the list
abbrev pub numbered_in : List ℕ → Tree → Tree
numbered_in variables = renamed (place_in variables)

-- both terms with their variables numbered as they first come, through the first and then the second
pub record AreNumberedAnew (s t : Tree) (n : Numbered) : Type 0 where
  pub first : tree_of n.first ≡ numbered_in (variables_of s t) s
  pub second : tree_of n.second ≡ numbered_in (variables_of s t) t

-- all variables are below the count
pub record HaveFew (count : ℕ) (n : Numbered) : Type 0 where
  pub first : bound (tree_of n.first) ≤ count
  pub second : bound (tree_of n.second) ≤ count

-- no two of the variables are equal, and each is a byte; no public clause cites it
pub record AreApart (variables : List ℕ) : Type 0 where
  pub distinct : IsDistinct eqb variables
  pub bytes : (v : ℕ) → list_any (eqb v) variables ≡ true → v < 256
