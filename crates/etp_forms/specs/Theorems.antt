-- What linear forms say of a magma, for one carrier.
use Rattle.std.specs.Prelude.{◌≡◌, ℕ, ◌≤◌, ◌↔◌, Bool, IsTrue, List}
use Rattle.etp_theory.specs.Trees.{Tree, bound}
use Rattle.etp_theory.specs.Magmas.{meaning, IsClosed, Holds}
use Rattle.etp_forms.specs.Forms.{Affine, coefficient, constant, sum_to, only, IsLinear, Generate, HaveOneForm}

pub record FormTheorems (A : Type 0) : Type 0 where
  pub closed : (inside : A → Bool) (times : A → A → A) (f : Affine A) → IsLinear inside times f
      → IsClosed inside times
  -- the value of a term is the value of its form
  pub value : (inside : A → Bool) (times : A → A → A) (f : Affine A) → IsLinear inside times f
      → (r : ℕ → A) → ((v : ℕ) → IsTrue (inside (r v))) → (n : ℕ) (t : Tree) → bound t ≤ n
      → meaning times r t ≡ f.plus (sum_to f n (λ v. coefficient f t v (r v))) (constant f t)
  pub at_origin : (inside : A → Bool) (times : A → A → A) (f : Affine A) → IsLinear inside times f
      → (t : Tree) → meaning times (λ v. f.origin) t ≡ constant f t
  pub at_one : (inside : A → Bool) (times : A → A → A) (f : Affine A) → IsLinear inside times f
      → (v : ℕ) (z : A) → IsTrue (inside z) → (t : Tree)
      → meaning times (only f v z) t ≡ f.plus (coefficient f t v z) (constant f t)
  -- a law holds exactly where both sides have one form
  pub holds : (inside : A → Bool) (times : A → A → A) (f : Affine A) → IsLinear inside times f
      → (generators : List A) → Generate inside f generators → (p q : Tree)
      → Holds inside times p q ↔ HaveOneForm f generators p q
