-- What a derivation concludes holds wherever its law holds.
use Rattle.std.specs.Prelude.{◌≡◌, ℕ, Bool, IsTrue}
use Rattle.std.proofs.Common.{refl, sym, ap₂, ◌∙◌}
use Rattle.etp_theory.specs.Trees.{Tree, var, op, Equation}
use Rattle.etp_theory.specs.Substitutions.{apply}
use Rattle.etp_theory.specs.Derivations.{Concludes, by_law, reflexive, symmetric, transitive, congruent}
use Rattle.etp_theory.specs.Magmas.{meaning, IsClosed, Holds}

module _ {A : Type 0} (times : A → A → A) where
  pub meaning_applied : (r : ℕ → A) (m : ℕ → Tree) (t : Tree)
      → meaning times r (apply m t) ≡ meaning times (λ v. meaning times r (m v)) t
  meaning_applied r m (var v) = refl
  meaning_applied r m (op s t) = ap₂ times (meaning_applied r m s) (meaning_applied r m t)

module _ {A : Type 0} (inside : A → Bool) (times : A → A → A) (closed : IsClosed inside times) where
  pub meaning_inside : (r : ℕ → A) → ((v : ℕ) → IsTrue (inside (r v)))
      → (t : Tree) → IsTrue (inside (meaning times r t))
  meaning_inside r h (var v) = h v
  meaning_inside r h (op s t) = closed _ _ (meaning_inside r h s) (meaning_inside r h t)

  pub sound : (e : Equation) {p q : Tree} → Holds inside times e.left e.right → Concludes e p q → Holds inside times p q
  sound e holds (by_law m) r h =
      meaning_applied times r m e.left ∙ holds (λ v. meaning times r (m v)) (λ v. meaning_inside r h (m v))
      ∙ sym (meaning_applied times r m e.right)
  sound e holds (reflexive t) r h = refl
  sound e holds (symmetric d) r h = sym (sound e holds d r h)
  sound e holds (transitive d d') r h = sound e holds d r h ∙ sound e holds d' r h
  sound e holds (congruent d d') r h = ap₂ times (sound e holds d r h) (sound e holds d' r h)
