-- Positions: lists of left and right, read from the root down.
use Rattle.std.specs.Prelude.{List, [], ◌∷◌, Option, Some, None}
use Rattle.etp_theory.specs.Trees.{Tree, var, op}

pub data Side : Type 0 where
  to_left : Side
  to_right : Side

-- the subterm at a position, where the position is in the term
abbrev pub sub_at : List Side → Tree → Option Tree
sub_at [] t = Some t
sub_at (to_left ∷ p) (var v) = None
sub_at (to_left ∷ p) (op l r) = sub_at p l
sub_at (to_right ∷ p) (var v) = None
sub_at (to_right ∷ p) (op l r) = sub_at p r

-- the term with another one put at the position; where the position isn't in the term, the term
abbrev pub put_at : List Side → Tree → Tree → Tree
put_at [] t u = u
put_at (to_left ∷ p) (var v) u = var v
put_at (to_left ∷ p) (op l r) u = op (put_at p l u) r
put_at (to_right ∷ p) (var v) u = var v
put_at (to_right ∷ p) (op l r) u = op l (put_at p r u)
