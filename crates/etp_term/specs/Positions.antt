-- Which position a list of the program stands for.
use Rattle.std.specs.Prelude.{List, map}
use Rattle.etp_theory.specs.Positions.{to_left, to_right}
use Rattle.etp_theory.specs.Positions as Theory
use Rattle.etp_term.specs.declared.position.Side.{Side}
use Rattle.etp_term.specs.declared.position.Side.TheVariants.{L, R}

abbrev pub side_of : Side → Theory.Side
side_of L = to_left
side_of R = to_right

-- the position that a list of sides stands for
abbrev pub position_of : List Side → List Theory.Side
position_of = map side_of
