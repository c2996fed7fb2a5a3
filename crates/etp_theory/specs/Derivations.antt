-- What a law derives, by Birkhoff's rules (Birkhoff 1935).
use Rattle.std.specs.Prelude.{ℕ}
use Rattle.etp_theory.specs.Trees.{Tree, op, Equation}
use Rattle.etp_theory.specs.Substitutions.{apply}

-- a derivation from the law, and the two terms that it concludes to be equal
pub data Concludes (e : Equation) : Tree → Tree → Type 0 where
  by_law : (s : ℕ → Tree) → Concludes e (apply s e.left) (apply s e.right)
  reflexive : (t : Tree) → Concludes e t t
  symmetric : {p q : Tree} → Concludes e p q → Concludes e q p
  transitive : {p q r : Tree} → Concludes e p q → Concludes e q r → Concludes e p r
  congruent : {p q p' q' : Tree} → Concludes e p q → Concludes e p' q' → Concludes e (op p p') (op q q')

-- some derivation from e concludes the two sides of f
abbrev pub Derives : Equation → Equation → Type 0
Derives e f = Concludes e f.left f.right
