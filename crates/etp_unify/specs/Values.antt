-- What is read off values that may have variables with values themselves.
use Rattle.std.specs.Prelude.{◌≡◌, ◌≢◌, ◌<◌, ◌≤◌, ℕ, min, slice_index, List, Bool, true, false, Some, None, slice_index_or}
use Rattle.etp_theory.specs.Trees.{Tree, var, Occurs, leaves}
use Rattle.etp_theory.specs.Substitutions.{apply, Partial}
use Rattle.etp_match.specs.declared.subst.Binding.{Binding}
use Rattle.etp_unify.specs.Triangular.{solution}

-- from a variable to its value, as often as wanted
pub data Leads (values : Partial) : Tree → Tree → Type 0 where
  here : (t : Tree) → Leads values t t
  further : (v : ℕ) (t u : Tree) → values.value v ≡ Some t → Leads values t u
      → Leads values (var v) u

-- it leads there, and from there no further
pub record IsEnd (values : Partial) (s t : Tree) : Type 0 where
  pub leads : Leads values s t
  pub last : (v : ℕ) → t ≡ var v → values.value v ≡ None

-- the variable stands in the term once all values are put in
abbrev pub StandsIn : List Binding → ℕ → Tree → Type 0
StandsIn bindings x t = Occurs x (apply (solution bindings) t)

-- no marked variable has the given one in its value
abbrev pub AreWithout : List Binding → ℕ → List Bool → Type 0
AreWithout bindings x marks =
    (v : ℕ) → slice_index_or marks v false ≡ true → Occurs x (solution bindings v) → ⊥

-- the leaves of a term with all values put in, up to the number that stands for more
abbrev pub counted : List Binding → Tree → ℕ
counted bindings t = min (leaves (apply (solution bindings) t)) 4294967296

-- each count is 0, or that of the variable
abbrev pub AreCounted : List Binding → List ℕ → Type 0
AreCounted bindings known =
    (v : ℕ) → slice_index known v ≢ 0 → slice_index known v ≡ counted bindings (var v)

-- no variable below the bound has more leaves than so many
abbrev pub AreWithin : List Binding → ℕ → ℕ → Type 0
AreWithin bindings bound count = (v : ℕ) → v < bound → counted bindings (var v) ≤ count
