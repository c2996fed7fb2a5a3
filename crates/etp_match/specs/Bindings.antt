-- Which substitution a list of bindings stands for.
use Rattle.std.specs.Prelude.{◌≡◌, ℕ, suc, max, ◌≤◌, cond, eqb, List, [], ◌∷◌, map, Option, Some, None}
use Rattle.std.proofs.Common.{false, refl, ap, ◌∙◌}
use Rattle.std.proofs.Math.Nat.{le_trans, le-max_left, le-max_right, ne_of_lt}
use Rattle.std.proofs.lemmas.Bool.{ne_eqb}
use Rattle.etp_theory.specs.Trees.{Tree}
use Rattle.etp_theory.specs.Substitutions.{Partial}
use Rattle.etp_term.specs.Terms.{tree_of}
use Rattle.etp_match.specs.declared.subst.Binding.{Binding}

-- the variable and its value
abbrev pub entry_of : Binding → ℕ × Tree
entry_of b = (b.variable, tree_of b.value)

-- the value of a variable: that of its first entry
abbrev pub value_of : List (ℕ × Tree) → ℕ → Option Tree
value_of [] v = None
value_of (e ∷ es) v = cond (eqb e.0 v) (Some e.1) (value_of es v)

-- no variable from here on has an entry
abbrev pub end_of : List (ℕ × Tree) → ℕ
end_of [] = 0
end_of (e ∷ es) = max (suc e.0) (end_of es)

pub past_end : (es : List (ℕ × Tree)) (v : ℕ) → end_of es ≤ v → value_of es v ≡ None
past_end [] v h = refl
past_end (e ∷ es) v h =
    let apart : eqb e.0 v ≡ false = ne_eqb e.0 v (ne_of_lt (le_trans (le-max_left (suc e.0) (end_of es)) h)) in
    ap (λ b. cond b (Some e.1) (value_of es v)) apart
    ∙ past_end es v (le_trans (le-max_right (suc e.0) (end_of es)) h)

-- the finite partial map of the entries
abbrev pub map_of : List (ℕ × Tree) → Partial
map_of es = record { value = value_of es; bound = end_of es; absent = past_end es }

abbrev pub partial_of : List Binding → Partial
partial_of bindings = map_of (map entry_of bindings)

-- each variable has the same value in both, or none in either
abbrev pub HaveSameValues : List Binding → List Binding → Type 0
HaveSameValues xs ys = (v : ℕ) → (partial_of xs).value v ≡ (partial_of ys).value v
