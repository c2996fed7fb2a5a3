-- Pairs of terms that are to be made equal.
use Rattle.std.specs.Prelude.{◌≡◌, ◌≢◌, ◌↔◌, ℕ, List, [], ◌∷◌, Option, Some, None, Bool, true, false}
use Rattle.etp_theory.specs.Trees.{Tree, var}
use Rattle.etp_theory.specs.Substitutions.{apply, Partial}
use Rattle.etp_term.specs.Terms.{tree_of}
use Rattle.etp_match.specs.Bindings.{partial_of}
use Rattle.etp_match.specs.declared.subst.Binding.{Binding}
use Rattle.etp_unify.specs.Triangular.{IsTriangular, HasSmallVariables}
use Rattle.etp_unify.specs.declared.solving.Pair.{Pair}
use Rattle.etp_unify.specs.declared.solving.Difference.{Difference}

-- the substitution makes each variable and its value equal
abbrev pub Respects : (ℕ → Tree) → Partial → Type 0
Respects n values = (v : ℕ) (t : Tree) → values.value v ≡ Some t → n v ≡ apply n t

-- it makes all pairs equal
abbrev pub Equates : (ℕ → Tree) → List Pair → Type 0
Equates n [] = Unit {0}
Equates n (p ∷ ps) = (apply n (tree_of p.left.now) ≡ apply n (tree_of p.right.now)) × Equates n ps

-- a variable without a value, and another term with none; with those made equal too, the pairs after
-- are equal exactly where those before are
pub record IsDifference (values : Partial) (before after : List Pair) (x : ℕ) (t : Tree) : Type 0 where
  pub free : values.value x ≡ None
  pub other : t ≢ var x
  pub last : (v : ℕ) → t ≡ var v → values.value v ≡ None
  pub same : (n : ℕ → Tree) → Respects n values
      → Equates n before ↔ ((n x ≡ apply n t) × Equates n after)

-- with no difference, what respects the values makes the pairs equal
abbrev pub IsNext : Partial → List Pair → List Pair → Option Difference → Type 0
IsNext values before after None = (n : ℕ → Tree) → Respects n values → Equates n before
IsNext values before after (Some d) =
    IsDifference values before after d.variable (tree_of d.value.now)

-- the later values are respected exactly by what respects the earlier ones and makes all equal
pub record AreSolved (pairs : List Pair) (earlier later : List Binding) : Type 0 where
  pub triangular : IsTriangular later
  pub small : HasSmallVariables later
  pub same : (n : ℕ → Tree) → (Respects n (partial_of earlier) × Equates n pairs)
      ↔ Respects n (partial_of later)

-- nothing that respects the values makes all equal
abbrev pub HaveNoSolution : List Pair → List Binding → Type 0
HaveNoSolution pairs values =
    (n : ℕ → Tree) → Respects n (partial_of values) → Equates n pairs → ⊥

-- all pairs are equal under the later values, or under none
abbrev pub IsOutcome : List Pair → List Binding → List Binding → Bool → Type 0
IsOutcome pairs earlier later true = AreSolved pairs earlier later
IsOutcome pairs earlier later false = HaveNoSolution pairs earlier
