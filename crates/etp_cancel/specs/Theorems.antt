-- The theorems, as the contract names them.
use Rattle.std.specs.Prelude.{◌≡◌, ℕ, ◌<◌, ◌↔◌, List, [], Some, slice_get}
use Rattle.etp_theory.specs.Trees.{Equation, law_dual}
use Rattle.etp_theory.specs.Sameness.{Same}
use Rattle.etp_theory.specs.Derivations.{Derives}
use Rattle.etp_theory.specs.LawNumbers.{law_numbered}
use Rattle.etp_theory.specs.Reach.{Fact, Reach, Covers}
use Rattle.etp_cancel.specs.FiniteMagmas.{FiniteImplies, Separates}
use Rattle.etp_cancel.specs.Cancelling.{Cancel, cancel_conclusion, IsCancelledBy, FiniteLemma, finite_conclusion, AreRightFiniteLemmas, IsFinitelyValid}
use Rattle.etp_cancel.specs.FiniteFacts.{AreRightFiniteFacts}

pub record CancelTheorems : Type 0 where
  -- a map of 0 to n - 1 into itself that has a left inverse takes every value
  pub onto : (n : ℕ) (f g : ℕ → ℕ) → ((x : ℕ) → x < n → f x < n)
      → ((x : ℕ) → x < n → g (f x) ≡ x) → (y : ℕ) → y < n → (x : ℕ) × (x < n) × (f x ≡ y)
  -- with the other variables fixed, B is such a map and A its left inverse
  pub cancels : (c : Cancel) (e : Equation) → IsCancelledBy c e → FiniteImplies e (cancel_conclusion c)
  -- what each lemma concludes, and so the goal, holds in every finite magma of the hypothesis
  pub concluded : (hypothesis : Equation) (lemmas : List FiniteLemma)
      → AreRightFiniteLemmas hypothesis [] lemmas
      → (k : ℕ) (l : FiniteLemma) → slice_get lemmas k ≡ Some l
      → FiniteImplies hypothesis (finite_conclusion l)
  pub proved : (hypothesis goal : Equation) (lemmas : List FiniteLemma)
      → IsFinitelyValid hypothesis goal lemmas → FiniteImplies hypothesis goal
  -- what is derived is implied there too
  pub derived : (e f : Equation) → Derives e f → FiniteImplies e f
  pub same : (e f : Equation) → Same e f → FiniteImplies e f × FiniteImplies f e
  pub chained : (e f g : Equation) → FiniteImplies e f → FiniteImplies f g → FiniteImplies e g
  pub dualised : (e f : Equation) → FiniteImplies e f ↔ FiniteImplies (law_dual e) (law_dual f)
  -- no two laws are both implied and separated
  pub apart : (e f : Equation) → FiniteImplies e f → Separates e f → ⊥
  -- the first law may be replaced by one that it implies, the second by one that implies it
  pub moved : (d e f g : Equation) → Separates e f → FiniteImplies e d → FiniteImplies g f
      → Separates d g
  pub dual_separated : (e f : Equation) → Separates e f ↔ Separates (law_dual e) (law_dual f)
  -- right facts: what is reached is implied, what is covered is separated, and no pair is both
  pub reached : (laws : List Equation) (duals : List ℕ) (facts : List Fact)
      → AreRightFiniteFacts laws duals facts → (e f : ℕ) (p q : Equation)
      → law_numbered laws e ≡ Some p → law_numbered laws f ≡ Some q
      → Reach duals facts e f → FiniteImplies p q
  pub covered : (laws : List Equation) (duals : List ℕ) (facts : List Fact)
      → AreRightFiniteFacts laws duals facts → (e f : ℕ) (p q : Equation)
      → law_numbered laws e ≡ Some p → law_numbered laws f ≡ Some q
      → Covers duals facts e f → Separates p q
  pub never_both : (laws : List Equation) (duals : List ℕ) (facts : List Fact)
      → AreRightFiniteFacts laws duals facts → (e f : ℕ)
      → Reach duals facts e f → Covers duals facts e f → ⊥
