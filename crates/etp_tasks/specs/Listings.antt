-- The text of the list of laws.
use Rattle.std.specs.Prelude.{◌≡◌, ℕ, ◌+◌, List, [], ◌∷◌, ◌++◌}
use Rattle.std.specs.declared.option.Option.{Option}
use Rattle.std.specs.Io.KnownBytes.{Appends}
use Rattle.etp_theory.specs.Trees.{Equation}
use Rattle.etp_laws.specs.Listing.{IsTheList}
use Rattle.etp_show.specs.LawReplies.{law_line}
use Rattle.etp_tasks.specs.Writing.{WritesText}

-- the lines of laws that are numbered from n on
abbrev pub laws_from : ℕ → List Equation → List ℕ
laws_from n [] = []
laws_from n (p ∷ laws) = law_line n p ++ laws_from (n + 1) laws

-- the text of a list of laws: a line for each
abbrev pub laws_text : List Equation → List ℕ
laws_text laws = laws_from 1 laws

-- so is the list of the laws of at most k operations written
pub record WritesLaws (k : ℕ) (took_before took_after : Option (List ℕ)) (status : ℕ) : Type 0 where
  pub laws : List Equation
  pub the_list : IsTheList k laws
  pub writes : WritesText (laws_text laws) took_before took_after status

-- a front of the text was written and taken out of it
pub record MovesFront (text text' : List ℕ) (took_before took_after : Option (List ℕ)) : Type 0 where
  pub front : List ℕ
  pub joined : text ≡ front ++ text'
  pub written : Appends took_before took_after front
