-- Derivations whose instances are taken by finite partial maps in place of total functions.
use Rattle.etp_theory.specs.Trees.{Tree, op, Equation}
use Rattle.etp_theory.specs.Substitutions.{apply, Partial, total}

-- Birkhoff's rules; `by_partial` replaces each variable that has a value, and a variable
-- without one stays
pub data ConcludesPartial (e : Equation) : Tree → Tree → Type 0 where
  by_partial : (s : Partial) → ConcludesPartial e (apply (total s) e.left) (apply (total s) e.right)
  reflexive : (t : Tree) → ConcludesPartial e t t
  symmetric : {p q : Tree} → ConcludesPartial e p q → ConcludesPartial e q p
  transitive : {p q r : Tree} → ConcludesPartial e p q → ConcludesPartial e q r
      → ConcludesPartial e p r
  congruent : {p q p' q' : Tree} → ConcludesPartial e p q → ConcludesPartial e p' q'
      → ConcludesPartial e (op p p') (op q q')
