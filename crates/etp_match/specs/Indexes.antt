-- Bound variables in order, and for each its place in that order.
use Rattle.std.specs.Prelude.{◌≡◌, ℕ, List, length, slice_get, Some}
use Rattle.etp_match.specs.declared.subst.Binding.{Binding}
use Rattle.etp_match.specs.declared.table.Bound.{Bound}

abbrev pub binding_of : Bound → Binding
binding_of b = record { variable = b.variable; value = b.value.now }

-- at a variable's number stands its place in the list, so no variable is bound twice
pub record IsIndex (bound : List Bound) (places : List ℕ) : Type 0 where
  pub size : length places ≡ 256
  pub placed : (k : ℕ) (b : Bound) → slice_get bound k ≡ Some b → slice_get places b.variable ≡ Some k
