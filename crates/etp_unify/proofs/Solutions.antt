-- The map of all variables to their values, with all values put in.
use Rattle.std.proofs.Common.{◌≡◌, ℕ, ◌<◌, ◌≤◌, List, [], ◌∷◌, ◌++◌, map, Some, None, sym, ap, ◌∙◌}
use Rattle.std.specs.Option.{option_map}
use Rattle.etp_theory.specs.Trees.{Tree}
use Rattle.etp_theory.specs.Substitutions.{apply}
use Rattle.etp_term.specs.Terms.{tree_of}
use Rattle.etp_term.specs.declared.term.Term.{Term}
use Rattle.etp_match.specs.Bindings.{value_of, entry_of, partial_of}
use Rattle.etp_match.specs.declared.subst.Binding.{Binding}
use Rattle.etp_match.proofs.Extending.{map_after}
use Rattle.etp_unify.specs.Triangular.{IsPut, solved_value, solution}
use Rattle.etp_unify.proofs.Triangular.{entry_at, entry_elsewhere}

-- all variables below the given one are in the map, and none from it on
pub record IsSolvedTo (bindings m : List Binding) (v : ℕ) : Type 0 where
  pub below : (w : ℕ) → w < v → (partial_of m).value w ≡ solved_value bindings w
  pub above : (w : ℕ) → v ≤ w → (partial_of m).value w ≡ None

-- one more variable, with its value
pub put_bound : (bindings m more : List Binding) (v : ℕ) (value : Term) (t : Tree) → (partial_of m).value v ≡ None → (partial_of bindings).value v ≡ Some t → tree_of value ≡ apply (solution bindings) t → more ≡ m ++ (record { variable = v; value = value }) ∷ [] → IsPut bindings v m more
put_bound bindings m more v value t h e k put =
    let entries : map entry_of more ≡ map entry_of m ++ (v, tree_of value) ∷ [] =
    ap (map entry_of) put ∙ map_after entry_of m ((record { variable = v; value = value }) ∷ []) in
    record {
      here =
          ap (λ (es : List (ℕ × Tree)). value_of es v) entries
          ∙ entry_at (map entry_of m) v (tree_of value) h
          ∙ ap Some k
          ∙ ap (option_map (apply (solution bindings))) (sym e);
      others = λ w q. ap (λ (es : List (ℕ × Tree)). value_of es w) entries ∙ entry_elsewhere (map entry_of m) v (tree_of value) w q;
    }
