-- Values of variables, one after the other, and the substitution that they stand for.
use Rattle.std.specs.Prelude.{◌≡◌, ◌≢◌, ◌≤◌, ℕ, Option, None, List, [], ◌∷◌, map}
use Rattle.std.specs.Option.{option_map}
use Rattle.etp_theory.specs.Trees.{Tree, var, Occurs}
use Rattle.etp_theory.specs.Substitutions.{apply, then_apply}
use Rattle.etp_theory.specs.Unifiers.{single}
use Rattle.etp_match.specs.Bindings.{entry_of, partial_of}
use Rattle.etp_match.specs.declared.subst.Binding.{Binding}

-- the substitution with one more entry: its value, as it then is, in place of its variable
abbrev pub with_entry : (ℕ → Tree) → ℕ × Tree → ℕ → Tree
with_entry m e = then_apply m (single e.0 (apply m e.1))

abbrev pub with_entries : (ℕ → Tree) → List (ℕ × Tree) → ℕ → Tree
with_entries m [] = m
with_entries m (e ∷ es) = with_entries (with_entry m e) es

-- no entry's variable has a value before, and none stands in its own value, as that then is
abbrev pub AreTriangular : (ℕ → Tree) → List (ℕ × Tree) → Type 0
AreTriangular m [] = Unit {0}
AreTriangular m (e ∷ es) =
    (m e.0 ≡ var e.0) × (Occurs e.0 (apply m e.1) → ⊥) × AreTriangular (with_entry m e) es

abbrev pub IsTriangular : List Binding → Type 0
IsTriangular bindings = AreTriangular var (map entry_of bindings)

-- no variables but the program's have values
abbrev pub HasSmallVariables : List Binding → Type 0
HasSmallVariables bindings = (v : ℕ) → 256 ≤ v → (partial_of bindings).value v ≡ None

-- every variable with all values put in
abbrev pub solution : List Binding → ℕ → Tree
solution bindings = with_entries var (map entry_of bindings)

-- the value of a variable with all values put in, where it has one
abbrev pub solved_value : List Binding → ℕ → Option Tree
solved_value bindings v = option_map (apply (solution bindings)) ((partial_of bindings).value v)

-- a map of the same variables, each to its value with all values put in
abbrev pub HasSolution : List Binding → List Binding → Type 0
HasSolution bindings m = (v : ℕ) → (partial_of m).value v ≡ solved_value bindings v

-- the later map is so at one more variable
pub record IsPut (bindings : List Binding) (v : ℕ) (earlier later : List Binding) : Type 0 where
  pub here : (partial_of later).value v ≡ solved_value bindings v
  pub others : (w : ℕ) → w ≢ v → (partial_of later).value w ≡ (partial_of earlier).value w
