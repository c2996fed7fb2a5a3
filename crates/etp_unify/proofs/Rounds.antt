-- One difference after the other: what each value given keeps, and where no substitution is left.
use Rattle.std.proofs.Common.{◌≡◌, ℕ, ◌⊎◌, inl, inr, ◌<◌, ◌↔◌, List, [], ◌∷◌, ◌++◌, map, Some, None, refl, sym, ap, ◌∙◌, subst, arith}
use Rattle.std.proofs.lemmas.Bool.{cases_eq}
use Rattle.etp_theory.specs.Trees.{Tree, var, op, Occurs}
use Rattle.etp_theory.specs.Substitutions.{apply}
use Rattle.etp_theory.proofs.Unifiers.{stuck, difference_facts, absorbed_term}
use Rattle.etp_term.specs.Terms.{tree_of}
use Rattle.etp_term.specs.declared.term.Term.{Term}
use Rattle.etp_match.specs.Bindings.{value_of, entry_of, partial_of}
use Rattle.etp_match.specs.declared.subst.Binding.{Binding}
use Rattle.etp_match.proofs.Extending.{map_after}
use Rattle.etp_unify.specs.Triangular.{AreTriangular, IsTriangular, HasSmallVariables, solution}
use Rattle.etp_unify.specs.Solving.{Respects, Equates, IsDifference}
use Rattle.etp_unify.specs.declared.solving.Pair.{Pair}
use Rattle.etp_unify.proofs.Triangular.{entry_at, entry_elsewhere, triangular_more, solution_resolved, solution_absorbed}
use Rattle.etp_unify.proofs.Unbound.{unbound, fewer_unbound}

-- makes each variable and its value equal, and all pairs
abbrev pub Unifies : (ℕ → Tree) → List Binding → List Pair → Type 0
Unifies n values pairs = Respects n (partial_of values) × Equates n pairs

-- what is left to do has the same unifiers
pub record IsLeft (earlier : List Binding) (pairs : List Pair) (later : List Binding) (left : List Pair) : Type 0 where
  pub triangular : IsTriangular later
  pub small : HasSmallVariables later
  pub same : (n : ℕ → Tree) → Unifies n earlier pairs ↔ Unifies n later left

module _ (bindings : List Binding) (h : IsTriangular bindings) (before after : List Pair) (x : ℕ) (term : Term) (d : IsDifference (partial_of bindings) before after x (tree_of term)) where
  -- the variable stands in the term
  cycle : Occurs x (apply (solution bindings) (tree_of term)) → (n : ℕ → Tree) → Respects n (partial_of bindings) → n x ≡ apply n (tree_of term) → ⊥
  cycle o n r e = go (tree_of term) refl
    where
      m : ℕ → Tree
      m = solution bindings

      absorbed : (t : Tree) → apply n (apply (solution bindings) t) ≡ apply n t
      absorbed = absorbed_term (solution bindings) n (solution_absorbed bindings h n r)

      go : (t : Tree) → tree_of term ≡ t → ⊥
      go (var y) k =
          let kept : apply (solution bindings) (tree_of term) ≡ var y = ap (apply (solution bindings)) k ∙ (solution_resolved bindings h).free y (d.last y k) in
          let same : y ≡ x = subst (Occurs x) kept o in
          d.other (k ∙ ap var same)
      go (op a b) k =
          stuck (var x) (op (apply (solution bindings) a) (apply (solution bindings) b))
          (record { variable = x; value = op (apply (solution bindings) a) (apply (solution bindings) b) })
          (difference_facts (var x) (op (apply (solution bindings) a) (apply (solution bindings) b)) _ refl)
          (subst (λ t. Occurs x (apply (solution bindings) t)) k o) n
          (e ∙ sym (absorbed (tree_of term)) ∙ ap (λ t. apply n (apply (solution bindings) t)) k)

  pub nothing_left : Occurs x (apply (solution bindings) (tree_of term)) → (n : ℕ → Tree) → Unifies n bindings before → ⊥
  nothing_left o n u = cycle o n u.0 ((d.same n u.0).0 u.1).0

  -- the variable has the term as its value
  module _ (apart : Occurs x (apply (solution bindings) (tree_of term)) → ⊥) (more : List Binding) (put : more ≡ bindings ++ (record { variable = x; value = term }) ∷ []) where
    entries : map entry_of more ≡ map entry_of bindings ++ (x, tree_of term) ∷ []
    entries = ap (map entry_of) put ∙ map_after entry_of bindings ((record { variable = x; value = term }) ∷ [])

    pub still_triangular : IsTriangular more
    still_triangular =
        subst (λ (es : List (ℕ × Tree)). AreTriangular var es) (sym entries)
        (triangular_more var (map entry_of bindings) (x, tree_of term) h ((solution_resolved bindings h).free x d.free, apart))

    value_here : (partial_of more).value x ≡ Some (tree_of term)
    value_here = ap (λ (es : List (ℕ × Tree)). value_of es x) entries ∙ entry_at (map entry_of bindings) x (tree_of term) d.free

    value_elsewhere : (v : ℕ) → (v ≡ x → ⊥) → (partial_of more).value v ≡ (partial_of bindings).value v
    value_elsewhere v k = ap (λ (es : List (ℕ × Tree)). value_of es v) entries ∙ entry_elsewhere (map entry_of bindings) x (tree_of term) v k

    -- a variable with a value is another one
    another : (v : ℕ) (t : Tree) → (partial_of bindings).value v ≡ Some t → v ≡ x → ⊥
    another v t e k = let f : Some t ≡ None = sym e ∙ ap (partial_of bindings).value k ∙ d.free in cc

    earlier_respected : (n : ℕ → Tree) → Respects n (partial_of more) → Respects n (partial_of bindings)
    earlier_respected n r v t e = r v t (value_elsewhere v (another v t e) ∙ e)

    later_respected : (n : ℕ → Tree) → Respects n (partial_of bindings) → n x ≡ apply n (tree_of term) → Respects n (partial_of more)
    later_respected n r k v t e = go (cases_eq v x)
      where
        go : (v ≡ x) ⊎ (v ≡ x → ⊥) → n v ≡ apply n t
        go (inl q) =
            let f : Some (tree_of term) ≡ Some t = sym value_here ∙ ap (partial_of more).value (sym q) ∙ e in
            let g : tree_of term ≡ t = cc in
            ap n q ∙ k ∙ ap (apply n) g
        go (inr q) = r v t (sym (value_elsewhere v q) ∙ e)

    pub same_unifiers : (n : ℕ → Tree) → Unifies n bindings before ↔ Unifies n more after
    same_unifiers n = (into, back)
      where
        into : Unifies n bindings before → Unifies n more after
        into u = let s = (d.same n u.0).0 u.1 in (later_respected n u.0 s.0, s.1)

        back : Unifies n more after → Unifies n bindings before
        back u = let r = earlier_respected n u.0 in (r, (d.same n r).1 (u.0 x (tree_of term) value_here, u.1))

    none_before : (v : ℕ) → (partial_of more).value v ≡ None → (partial_of bindings).value v ≡ None
    none_before v e = go (cases_eq v x)
      where
        go : (v ≡ x) ⊎ (v ≡ x → ⊥) → (partial_of bindings).value v ≡ None
        go (inl q) = ap (partial_of bindings).value q ∙ d.free
        go (inr q) = sym (value_elsewhere v q) ∙ e

    pub fewer_left : x < 256 → unbound (partial_of more) < unbound (partial_of bindings)
    fewer_left l = fewer_unbound (partial_of bindings) (partial_of more) x (tree_of term) none_before l value_here d.free

    pub still_small : x < 256 → HasSmallVariables bindings → HasSmallVariables more
    still_small l k v g = value_elsewhere v (λ e. omega (arith, l, g, e)) ∙ k v g
