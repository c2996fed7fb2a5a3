use Rattle.std.proofs.Common.{◌≡◌, ℕ, List, [], ◌∷◌, Some, sym, subst, subst₂}
use Rattle.std.proofs.lemmas.Option.{same_Some}
use Rattle.etp_theory.specs.Trees.{Tree, var, op, dual, law_dual, Equation}
use Rattle.etp_theory.specs.Substitutions.{apply, then_apply}
use Rattle.etp_theory.specs.Positions.{Side, to_left, to_right, sub_at, put_at}
use Rattle.etp_theory.specs.Derivations.{Concludes, by_law, reflexive, symmetric, transitive, congruent, Derives}
use Rattle.etp_theory.proofs.Trees.{composed, identity, dual_applied, law_dual_dual}

pub substituted : (e : Equation) {p q : Tree} (s : ℕ → Tree) → Concludes e p q → Concludes e (apply s p) (apply s q)
substituted e s (by_law m) = subst₂ (Concludes e) (sym (composed m s e.left)) (sym (composed m s e.right)) (by_law (then_apply m s))
substituted e s (reflexive t) = reflexive (apply s t)
substituted e s (symmetric d) = symmetric (substituted e s d)
substituted e s (transitive d d') = transitive (substituted e s d) (substituted e s d')
substituted e s (congruent d d') = congruent (substituted e s d) (substituted e s d')

pub dualised : (e : Equation) {p q : Tree} → Concludes e p q → Concludes (law_dual e) (dual p) (dual q)
dualised e (by_law m) = subst₂ (Concludes (law_dual e)) (sym (dual_applied m e.left)) (sym (dual_applied m e.right)) (by_law (λ v. dual (m v)))
dualised e (reflexive t) = reflexive (dual t)
dualised e (symmetric d) = symmetric (dualised e d)
dualised e (transitive d d') = transitive (dualised e d) (dualised e d')
dualised e (congruent d d') = congruent (dualised e d') (dualised e d)

pub chained : (e f : Equation) {p q : Tree} → Derives e f → Concludes f p q → Concludes e p q
chained e f h (by_law m) = substituted e m h
chained e f h (reflexive t) = reflexive t
chained e f h (symmetric d) = symmetric (chained e f h d)
chained e f h (transitive d d') = transitive (chained e f h d) (chained e f h d')
chained e f h (congruent d d') = congruent (chained e f h d) (chained e f h d')

pub inside : (e : Equation) (p : List Side) (s u v : Tree) → sub_at p s ≡ Some u → Concludes e u v → Concludes e s (put_at p s v)
inside e [] s u v h d = subst (λ x. Concludes e x v) (sym (same_Some _ _ h)) d
inside e (to_left ∷ p) (var x) u v h d = reflexive (var x)
inside e (to_left ∷ p) (op l r) u v h d = congruent (inside e p l u v h d) (reflexive r)
inside e (to_right ∷ p) (var x) u v h d = reflexive (var x)
inside e (to_right ∷ p) (op l r) u v h d = congruent (reflexive l) (inside e p r u v h d)

pub derives_itself : (e : Equation) → Derives e e
derives_itself e = subst₂ (Concludes e) (identity e.left) (identity e.right) (by_law var)

pub undualised : (e f : Equation) → Derives (law_dual e) (law_dual f) → Derives e f
undualised e f d = subst₂ Derives (law_dual_dual e) (law_dual_dual f) (dualised (law_dual e) d)
