-- Terms in the lines of bodies.
use Rattle.std.specs.Prelude.{◌≤◌, ℕ, List}
use Rattle.etp_theory.specs.Trees.{Tree, leaves}
use Rattle.etp_text.specs.Grammar.{SpellsTerm}
use Rattle.etp_text.specs.Refusals.{side_limit}

-- the text is that of a term of at most 255 leaves
pub record SpellsSide (text : List ℕ) (term : Tree) : Type 0 where
  pub spelled : SpellsTerm text term
  pub small : leaves term ≤ side_limit
