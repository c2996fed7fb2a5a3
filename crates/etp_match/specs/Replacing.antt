-- A term with another one put at a position, where the position is in the term.
use Rattle.std.specs.Prelude.{◌≡◌, List, Option, Some, None, IsSome}
use Rattle.etp_theory.specs.Trees.{Tree}
use Rattle.etp_theory.specs.Positions.{Side, sub_at, put_at}
use Rattle.etp_term.specs.Terms.{tree_of}
use Rattle.etp_term.specs.declared.term.Term.{Term}

-- none exactly where the position isn't in the term
abbrev pub IsReplaced : List Side → Tree → Tree → Option Term → Type 0
IsReplaced p s u None = sub_at p s ≡ None
IsReplaced p s u (Some t) = IsSome (sub_at p s) × (tree_of t ≡ put_at p s u)
